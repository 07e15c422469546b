-- The calls' answers as records of numbers, for callers in C and Rust. A refusal is its number and value in the table of refusals.
-- A field that an answer does not use is 0; no answer is 0.
--
-- check_of            — Check: 1 good with the five counts, 2 refused
-- part_of             — Action part: where it begins in the list, and its length
-- step_of             — Step: 1 not enabled with the guard row and its value, 2 runs off with the variable, 3 refused, 4 moved
-- ask_of              — Ask: 1 not accepted, 2 refused, 3 accepted
-- judge_of            — Judge: 1 may forbid with node and combination, 2 may run off with node, action, variable and end, 3 refused, 4 safe
-- not_judged, show_of — a show's bytes: 1 too long, 2 odd bytes, 3 the words list is too short, 4 Judge's answer with the words of logic and lemmas
-- findings_of         — Findings: 1 refused, 2 listed with their number
-- successor_of        — the view: 1 none, 2 refused, 3 a node
-- version             — the library's version: major times 1,000,000, minor times 1,000, and patch
use Rattle.std.specs.Prelude.{ℕ, ◌+◌, ◌*◌, cond, pos, Option, None, Some, Result, Ok, Err}
use Rattle.words.specs.Refusals.{number, value}
use Rattle.words.specs.declared.Refusal.{Refusal}
use Rattle.programs.specs.declared.Counts.{Counts}
use Rattle.programs.specs.declared.Part.{Part}
use Rattle.runs.specs.declared.Stepped.{Stepped}
use Rattle.runs.specs.declared.Stepped.TheVariants.{Moved, NotEnabled, RunsOff}
use Rattle.ask.specs.declared.Asked.{Asked}
use Rattle.ask.specs.declared.Asked.TheVariants.{Accepted, NotAccepted}
use Rattle.judge.specs.declared.Judged.{Judged}
use Rattle.judge.specs.declared.Judged.TheVariants.{Safe, MayForbid, MayRunOff}
use Rattle.show.specs.declared.Answered.{Answered}
use Rattle.show.specs.declared.Unread.{Unread}
use Rattle.show.specs.declared.Unread.TheVariants.{WordsShort, TooLong, OddBytes}
use Rattle.exports.specs.declared.BnvCheck.{BnvCheck}
use Rattle.exports.specs.declared.BnvPart.{BnvPart}
use Rattle.exports.specs.declared.BnvStep.{BnvStep}
use Rattle.exports.specs.declared.BnvAsk.{BnvAsk}
use Rattle.exports.specs.declared.BnvJudge.{BnvJudge}
use Rattle.exports.specs.declared.BnvShow.{BnvShow}
use Rattle.exports.specs.declared.BnvFindings.{BnvFindings}
use Rattle.exports.specs.declared.BnvSuccessor.{BnvSuccessor}

abbrev pub check_of : Result Counts Refusal → BnvCheck
check_of (Ok n) =
    record {
      answer = 1;
      refusal = 0;
      value = 0;
      variables = n.variables;
      start_rows = n.start_rows;
      predicates = n.predicates;
      actions = n.actions;
      forbidden = n.forbidden;
    }
check_of (Err r) =
    record { answer = 2; refusal = number r; value = value r; variables = 0; start_rows = 0; predicates = 0; actions = 0; forbidden = 0 }

abbrev pub part_of : Part → BnvPart
part_of p = record { start = p.start; length = p.length }

abbrev pub step_of : Result Stepped Refusal → BnvStep
step_of (Ok Moved) = record { answer = 4; row = 0; variable = 0; refusal = 0; row_value = pos 0; value = 0 }
step_of (Ok (NotEnabled f)) = record { answer = 1; row = f.row; variable = 0; refusal = 0; row_value = f.value; value = 0 }
step_of (Ok (RunsOff v)) = record { answer = 2; row = 0; variable = v; refusal = 0; row_value = pos 0; value = 0 }
step_of (Err r) = record { answer = 3; row = 0; variable = 0; refusal = number r; row_value = pos 0; value = value r }

abbrev pub ask_of : Result Asked Refusal → BnvAsk
ask_of (Ok Accepted) = record { answer = 3; refusal = 0; value = 0 }
ask_of (Ok NotAccepted) = record { answer = 1; refusal = 0; value = 0 }
ask_of (Err r) = record { answer = 2; refusal = number r; value = value r }

abbrev pub judge_of : Result Judged Refusal → BnvJudge
judge_of (Ok (Safe n e)) = record { verdict = 4; node = 0; place = 0; variable = 0; high = 0; nodes = n; edges = e; refusal = 0; value = 0 }
judge_of (Ok (MayForbid k b n e)) = record { verdict = 1; node = k; place = b; variable = 0; high = 0; nodes = n; edges = e; refusal = 0; value = 0 }
judge_of (Ok (MayRunOff k j v h n e)) =
    record { verdict = 2; node = k; place = j; variable = v; high = cond h 1 0; nodes = n; edges = e; refusal = 0; value = 0 }
judge_of (Err r) = record { verdict = 3; node = 0; place = 0; variable = 0; high = 0; nodes = 0; edges = 0; refusal = number r; value = value r }

abbrev pub not_judged : BnvJudge
not_judged = record { verdict = 0; node = 0; place = 0; variable = 0; high = 0; nodes = 0; edges = 0; refusal = 0; value = 0 }

abbrev pub show_of : Result Answered Unread → BnvShow
show_of (Err TooLong) = record { answer = 1; logic = 0; lemmas = 0; judged = not_judged }
show_of (Err OddBytes) = record { answer = 2; logic = 0; lemmas = 0; judged = not_judged }
show_of (Err WordsShort) = record { answer = 3; logic = 0; lemmas = 0; judged = not_judged }
show_of (Ok a) = record { answer = 4; logic = a.logic; lemmas = a.lemmas; judged = judge_of a.judged }

abbrev pub findings_of : Result ℕ Refusal → BnvFindings
findings_of (Ok n) = record { answer = 2; refusal = 0; value = 0; count = n }
findings_of (Err r) = record { answer = 1; refusal = number r; value = value r; count = 0 }

abbrev pub successor_of : Result (Option ℕ) Refusal → BnvSuccessor
successor_of (Ok (Some n)) = record { answer = 3; node = n; refusal = 0; value = 0 }
successor_of (Ok None) = record { answer = 1; node = 0; refusal = 0; value = 0 }
successor_of (Err r) = record { answer = 2; node = 0; refusal = number r; value = value r }

-- 0.8.1
abbrev pub version : ℕ
version = 0 * 1000000 + 8 * 1000 + 1
