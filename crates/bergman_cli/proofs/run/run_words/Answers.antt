use Rattle.std.proofs.Common.{◌≡◌, ◌∙◌, ap, map, rules, string_bytes, sym}
use Rattle.degree_loop.specs.Limits.{engine_limits}
use Rattle.command_words.specs.declared.job.EngineKind.TheVariants.{Core, Race}
use Rattle.bergman_cli.specs.Engines.{limits_of}
use Rattle.bergman_cli.proofs.RunAccounts.{core_engine, race_engine}
use Rattle.bergman_cli.proofs.Jobs.{sound_job, workers_range}
use Rattle.bergman_cli.proofs.run.run_words.Goals as goal

pub run_job-requires-clause-sound : goal.run_job-requires-clause-sound
run_job-requires-clause-sound g c κs within = sound_job (map string_bytes c.args.words.now) c.in-Ok.job c.in-Ok.ensures c.listed_moduli_law.ensures

pub run_job-requires-in-Seq-clause-sound : goal.run_job-requires-in-Seq-clause-sound
run_job-requires-in-Seq-clause-sound g c κs within = sound_job (map string_bytes c.args.words.now) c.in-Ok.job c.in-Ok.ensures c.listed_moduli_law.ensures

pub run_job-requires-in-Core-clause-sound : goal.run_job-requires-in-Core-clause-sound
run_job-requires-in-Core-clause-sound g c κs within = sound_job (map string_bytes c.args.words.now) c.in-Ok.job c.in-Ok.ensures c.listed_moduli_law.ensures

pub run_job-requires-in-Race-clause-sound : goal.run_job-requires-in-Race-clause-sound
run_job-requires-in-Race-clause-sound g c κs within = sound_job (map string_bytes c.args.words.now) c.in-Ok.job c.in-Ok.ensures c.listed_moduli_law.ensures

pub run_job-requires-in-Core-clause-engine : goal.run_job-requires-in-Core-clause-engine
run_job-requires-in-Core-clause-engine g c κs within =
    let job = c.in-Ok.job in
    let range = workers_range (map string_bytes c.args.words.now) job c.in-Ok.ensures in
    let made = c.new-engine-in-Core.ensures in
    let is : job.engine ≡ Core = search rules in
    let same = ap engine_limits (made.limits ∙ c.standard-in-Core.ensures.value) ∙ ap limits_of (sym is) in
    core_engine c.claim_history_law.ensures c.lower_law.ensures.lower job _ _ _ is same made.workers made.schedule range.0 range.1

pub run_job-requires-in-Race-clause-engine : goal.run_job-requires-in-Race-clause-engine
run_job-requires-in-Race-clause-engine g c κs within =
    let job = c.in-Ok.job in
    let range = workers_range (map string_bytes c.args.words.now) job c.in-Ok.ensures in
    let made = c.new-engine-in-Race.ensures in
    let is : job.engine ≡ Race = search rules in
    let same = ap engine_limits (made.limits ∙ c.standard-in-Race.ensures.value) ∙ ap limits_of (sym is) in
    race_engine c.claim_history_law.ensures c.lower_law.ensures.lower job _ _ is same made.workers range.0 range.1
