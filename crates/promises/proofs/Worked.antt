-- That the promises of the requests say something: what they come to in worked shows, by computing.
use mathlib.Core.{Path.{◌≡◌}, List.{List, [], ◌∷◌, ◌++◌, map}}
use Prim.Native.Nat.{ℕ, ◌≤◌, ◌+◌}
use Rattle.std.specs.Prelude.{Ok}
use lib.{IntN.{pos, negsuc}, ListN.{length, get_or, take}}
use Rattle.runs.specs.{declared.Failing.{Failing}, declared.Stepped.TheVariants.{Moved, NotEnabled, RunsOff}, Guards.{first_failing}, Calls.{stay, step_call}}
use Rattle.rack.specs.Rack.{rack_run, rack_call}
use Rattle.search.specs.Search.{To}
use Rattle.records.specs.Records.{distance_offset, record_place, graph_words}
use Rattle.verdict.specs.Verdicts.{path_words, steps_in}
use Rattle.verdict.specs.declared.Finding.TheVariants.{Forbid}
use Rattle.sheet.specs.Sheets.{finding_word}
use Rattle.judge.specs.{declared.Judged.TheVariants.{MayForbid}, Calls.{judge}, Shortest.{walk_end}}
use Rattle.findings.specs.Calls.{listing}
use Rattle.little.specs.LittleEndian.{bytes_of}
use Rattle.lines.specs.Text.{text}
use Rattle.report.specs.Report.{lines_of}
use Rattle.worked.specs.Shows.{fade, incident, incident_program, nine_times, row2}

-- ---- request 4: the rack's sixteen bits
-- 5 take 10 is minus 5, where Step runs off and the rack writes, and its run goes on; and where 4 and 5 times 8,191, which is 73,719, run off, it writes 8,183
pub rack_incident : (step_call incident 0 (pos 5 ∷ []) ≡ stay (Ok (RunsOff 0)) (pos 5 ∷ [])) × (rack_call incident 0 (pos 5 ∷ []) ≡ record { answer = Ok Moved; state = negsuc 4 ∷ [] })
    × ((rack_run incident_program (0 ∷ 0 ∷ []) (pos 5 ∷ [])).states ≡ (pos 5 ∷ []) ∷ (negsuc 4 ∷ []) ∷ (negsuc 14 ∷ []) ∷ [])
    × (let s = pos 8191 ∷ pos 8191 ∷ [] in (step_call nine_times 0 s ≡ stay (Ok (RunsOff 0)) s) × (rack_call nine_times 0 s ≡ record { answer = Ok Moved; state = pos 8183 ∷ pos 8191 ∷ [] }))
rack_incident = Rattle.worked.proofs.Racks.incident_racked

-- ---- request 5: how near it was
-- Fade's level of 0 lacks 5, for both steps; and of rows worth 0, -5 and -9 it is row 1 that lacks 5
pub near-worked : (let lacks : ℕ → Failing = λ k. record { row = k; value = negsuc 4 } in let s = pos 0 ∷ [] in (step_call fade 0 s ≡ stay (Ok (NotEnabled (lacks 0))) s) × (rack_call fade 0 s ≡ stay (Ok (NotEnabled (lacks 0))) s)
    × (first_failing (row2 (pos 1) (pos 0) (negsuc 4) ∷ row2 (pos 1) (pos 0) (negsuc 9) ∷ row2 (pos 1) (pos 0) (negsuc 13) ∷ []) (pos 5 ∷ []) ≡ lacks 1))
near-worked = Rattle.worked.proofs.Near.near-worked

-- ---- request 7: the shortest press list
-- in shows/shortcut.words the verdict's finding, at node 3, is one step away, and another walk to its node has two; the other findings, at nodes 4 and 5, are two away
pub two_distances : (ws : List ℕ) × (lemmas : List ℕ) × (lines_of (bytes_of (ws ++ lemmas)) ≡ text "FORBID node 3 bad 1\nPATH 2\n")
    × ((gl pl fl : List ℕ) → graph_words ≤ length gl → path_words ≤ length pl → 4 ≤ length fl → let j = judge ws lemmas gl pl in
    (j.answer ≡ Ok (MayForbid 3 1 6 19)) × (steps_in j.path ≡ 2 ∷ []) × (walk_end 4 j.graph 0 (2 ∷ []) ≡ To 3) × (walk_end 4 j.graph 0 (1 ∷ 0 ∷ []) ≡ To 3) × (walk_end 4 j.graph 0 (1 ∷ 3 ∷ []) ≡ To 4)
    × (map (λ k. get_or j.graph (record_place 4 k + distance_offset) 0) (3 ∷ 4 ∷ 5 ∷ []) ≡ 1 ∷ 2 ∷ 2 ∷ [])
    × (take 4 (listing ws lemmas gl fl).list ≡ map finding_word (Forbid 3 1 ∷ Forbid 4 0 ∷ Forbid 5 0 ∷ Forbid 5 1 ∷ [])))
two_distances = Rattle.worked.proofs.Shortest.two_distances
