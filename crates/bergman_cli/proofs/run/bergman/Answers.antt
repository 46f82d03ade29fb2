use Rattle.std.proofs.Common.{map, refl, rules, string_bytes}
use Rattle.job_steps.specs.Lines.{fault_line}
use Rattle.job_steps.specs.States.{source_state, state_of}
use Rattle.job_steps.proofs.Traced.{tells_behind, told_end}
use Rattle.bergman_cli.proofs.Causes.{end_input, end_memory, end_own, end_part, end_write, usage_exactly}
use Rattle.bergman_cli.proofs.Completing.{completes}
use Rattle.bergman_cli.proofs.run.bergman.Goals as goal

pub returns : goal.returns
returns g c =
    let words = map string_bytes c.args.words.now in
    let unread = source_state g.S.Source c.args.source.now in
    let rest = source_state g.S.Source c.run_words-status.new.source in
    let before = state_of g.K.Sink c.args.out.now in
    let after = state_of g.K.Sink c.run_words-status.new.out in
    let status = c.run_words-status.result in
    let run = c.run_words-status.ensures in
    let told = run.told in
    let whole = told_end _ _ _ refl (tells_behind _ _ _ told.0 (fault_line status) told.2 c.tell_status.ensures.told) in
    record {
      ended = end_own words unread rest before after status run.end;
      usage = λ fault. usage_exactly words unread rest before after (c.words_law.ensures words) fault status run.end;
      unread = run.unread;
      made = run.made;
      taken = run.taken;
      calls = run.calls;
      input = end_input words unread rest before after status run.end;
      write = end_write words unread rest before after status run.end;
      part = end_part words unread rest before after status run.end;
      memory = end_memory words unread rest before after status run.end;
      nothing = run.nothing;
      reads = run.reads;
      writes = run.writes;
      told = (told.0, told.1, search (whole, rules));
      complete = completes words unread rest before after (c.words_law.ensures words) c.reading_laws.ensures.reading status run.end;
    }
