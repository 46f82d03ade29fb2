use Rattle.std.proofs.Common.{◌≡◌, ◌∷◌, map, sym, ap, ◌∙◌}
use Rattle.std.specs.Prelude.{string_bytes}
use Rattle.command_words.specs.Keys.{command_name, required_of}
use Rattle.command_words.proofs.Jobs.{job_is, missing_is}
use Rattle.command_words.proofs.read.read_words.Goals as goal

pub returns-in-Some-missing : goal.returns-in-Some-missing
returns-in-Some-missing c =
    let command = c.in-Some-command_in.command in
    let rest = map string_bytes c.in-Some.rest.now in
    let first : string_bytes c.in-Some.first.now ≡ command_name command = sym c.as_bytes.ensures.value ∙ c.in-Some-command_in.ensures in
    record {
      command = command;
      rest = rest;
      words_are = ap (map string_bytes) c.in-Some.ensures.cases.0 ∙ (λ i. first i ∷ rest);
      fault_is = (
        c.in_ok-draft.ensures.taken,
        missing_is command rest c.in_ok-draft.draft.values c.in_ok-draft.ensures
            (required_of command) c.in-Some-missing.key c.in-Some-missing.ensures,
      );
    }

pub returns-in-None : goal.returns-in-None
returns-in-None c =
    let command = c.in-Some-command_in.command in
    let rest = map string_bytes c.in-Some.rest.now in
    let first : string_bytes c.in-Some.first.now ≡ command_name command = sym c.as_bytes.ensures.value ∙ c.in-Some-command_in.ensures in
    job_is command rest c.in_ok-draft.draft.values c.in_ok-draft.ensures (map string_bytes c.args.words.now) c.job.result
    (ap (map string_bytes) c.in-Some.ensures.cases.0 ∙ (λ i. first i ∷ rest)) c.job.ensures.command c.in-None.ensures c.job.ensures.values
