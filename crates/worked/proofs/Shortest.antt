-- That request 7 says something: shows/shortcut.words has findings one press away and two, and a longer walk to the first.
--
-- shortcut, shortcut_lemmas — its logic and its lemmas in words
-- shortcut_records — the records that Judge leaves; each line is a node's
-- shortcut_findings — its findings in judging order
use mathlib.Core.Path.{◌≡◌, refl}
use mathlib.Core.List.{List, [], ◌∷◌, ◌++◌, map}
use Prim.Native.Nat.{ℕ, ◌≤◌, ◌+◌, ◌-◌}
use lib.ListN.{length, get_or, take, replicate}
use lib.Seq.{take_at}
use Rattle.rows.specs.Rows.{dot, corner}
use Rattle.grammar.specs.Reading.{due, one, times, many}
use Rattle.grammar.specs.Grammar.{program, ranges, rows, end, coefs, row, assignment, sets, action}
use Rattle.actions.specs.NewRows.{assigned}
use Rattle.sums.specs.Sums.{plus_times, combine}
use Rattle.lemmas.specs.LemmaGrammar.{sets_variable, lemma, list}
use Rattle.frame.specs.Frame.{zero_on}
use Rattle.formula.specs.Formula.{conjuncts}
use Rattle.search.specs.Search.{To, links_in, turns, visited, explored}
use Rattle.search.specs.Paths.{back}
use Rattle.records.specs.Records.{distance_offset, record_place, graph_words, edge_row, records_of}
use Rattle.words.specs.LiteralSets.{literals_in, set_of}
use Rattle.abstraction.specs.Abstraction.{among, all_among, applies}
use Rattle.tables.specs.Off.{first_off}
use Rattle.verdict.specs.Verdicts.{path_words, steps_in, contradicted, forbids, runs_off, findings_from}
use Rattle.verdict.specs.declared.Finding.{Finding}
use Rattle.verdict.specs.declared.Finding.TheVariants.{Forbid}
use Rattle.verdict.specs.Verdicts.{ends as rangeEnds}
use Rattle.sheet.specs.Sheets.{finding_word}
use Rattle.judge.specs.Calls.{judge}
use Rattle.judge.specs.Shortest.{walk_end}
use Rattle.judge.specs.declared.Judged.TheVariants.{MayForbid}
use Rattle.std.specs.Prelude.{Ok}
use Rattle.little.specs.LittleEndian.{words_of, bytes_of}
use Rattle.show.specs.Show.{logic_length, words_in, logic_in, lemmas_in, of_bytes}
use Rattle.lines.specs.Text.{text, spelled, decimal, line}
use Rattle.report.specs.Report.{zeros, step_text, path_line, answer_lines, shown_lines, lines_of}
use Rattle.findings.specs.Calls.{listing}
use Rattle.worked.proofs.Table.{left, Judges, judged}
use Rattle.worked.proofs.Sheets.{Lists, fits}
use Rattle.worked.proofs.Line.{long}

-- Front light, house light and haze, 0 or 1, all 0 at the start; P0, P1, P2 that each is at least 1. Actions: 0 house light on; 1 if the house light is out,
-- front light on; 2 both on; 3 if the front light is on, haze. Forbidden 80000005 and 80000003.
abbrev shortcut : List ℕ
shortcut =
    0x10000001 ∷ 0x10000001 ∷ 0x10000001
    ∷ 0x40000003 ∷ 0x20000000 ∷ 0x3000FFFF ∷ 0x20000000 ∷ 0x3100FFFF ∷ 0x20000000 ∷ 0x3200FFFF
    ∷ 0x50000003 ∷ 0x2FFFFFFF ∷ 0x30000001 ∷ 0x2FFFFFFF ∷ 0x31000001 ∷ 0x2FFFFFFF ∷ 0x32000001
    ∷ 0x60000001 ∷ 0x70000001 ∷ 0x20000001
    ∷ 0x60000011 ∷ 0x20000000 ∷ 0x3100FFFF ∷ 0x70000000 ∷ 0x20000001
    ∷ 0x60000002 ∷ 0x70000000 ∷ 0x20000001 ∷ 0x70000001 ∷ 0x20000001
    ∷ 0x60000011 ∷ 0x2FFFFFFF ∷ 0x30000001 ∷ 0x70000002 ∷ 0x20000001
    ∷ 0x80000005 ∷ 0x80000003
    ∷ 0xF0000000 ∷ []

-- that all fail at the start; that action 1 cannot happen with the house light on, and 3 not with the front light out; of each variable that is set, that its
-- predicate holds afterwards and both ends
abbrev shortcut_lemmas : List ℕ
shortcut_lemmas =
    0x9FF20000 ∷ 0x80000000 ∷ 0xA0000001 ∷ 0xA0000001 ∷ 0xA0000000 ∷ 0xA0000000 ∷ 0x9FF20001 ∷ 0x80000000 ∷ 0xA0000001 ∷ 0xA0000000 ∷ 0xA0000001 ∷ 0xA0000000 ∷ 0x9FF20002 ∷ 0x80000000 ∷ 0xA0000001 ∷ 0xA0000000 ∷ 0xA0000000 ∷ 0xA0000001
    ∷ 0x90100000 ∷ 0x80000002 ∷ 0xA0000001 ∷ 0xA0000001 ∷ 0x90300000 ∷ 0x80004000 ∷ 0xA0000001 ∷ 0xA0000001
    ∷ 0x90010001 ∷ 0x80000000 ∷ 0xA0000001 ∷ 0x90030001 ∷ 0x80000000 ∷ 0xA0000001 ∷ 0x90040001 ∷ 0x80000000 ∷ 0xA0000001
    ∷ 0x90110000 ∷ 0x80000000 ∷ 0xA0000001 ∷ 0xA0000000 ∷ 0x90130000 ∷ 0x80000000 ∷ 0xA0000001 ∷ 0xA0000000 ∷ 0x90140000 ∷ 0x80000000 ∷ 0xA0000001 ∷ 0xA0000000
    ∷ 0x90210000 ∷ 0x80000000 ∷ 0xA0000001 ∷ 0x90230000 ∷ 0x80000000 ∷ 0xA0000001 ∷ 0x90240000 ∷ 0x80000000 ∷ 0xA0000001
    ∷ 0x90210001 ∷ 0x80000000 ∷ 0xA0000001 ∷ 0x90230001 ∷ 0x80000000 ∷ 0xA0000001 ∷ 0x90240001 ∷ 0x80000000 ∷ 0xA0000001
    ∷ 0x90310002 ∷ 0x80000000 ∷ 0xA0000001 ∷ 0xA0000000 ∷ 0x90330002 ∷ 0x80000000 ∷ 0xA0000001 ∷ 0xA0000000 ∷ 0x90340002 ∷ 0x80000000 ∷ 0xA0000001 ∷ 0xA0000000 ∷ []

abbrev shortcut_records : List ℕ
shortcut_records =
    0x8001C000 ∷ 0xB0001FFF ∷ 0x00000000 ∷ 0xC0000001 ∷ 0xC0000002 ∷ 0xC0000003 ∷ 0xCFFFFFFF
    ∷ 0x80014002 ∷ 0xB0000000 ∷ 0x00000001 ∷ 0xC0000001 ∷ 0xCFFFFFFF ∷ 0xC0000003 ∷ 0xCFFFFFFF
    ∷ 0x80018001 ∷ 0xB0000001 ∷ 0x00000001 ∷ 0xC0000003 ∷ 0xC0000002 ∷ 0xC0000003 ∷ 0xC0000004
    ∷ 0x80010003 ∷ 0xB0000002 ∷ 0x00000001 ∷ 0xC0000003 ∷ 0xCFFFFFFF ∷ 0xC0000003 ∷ 0xC0000005
    ∷ 0x80008005 ∷ 0xB0000023 ∷ 0x00000002 ∷ 0xC0000005 ∷ 0xC0000004 ∷ 0xC0000005 ∷ 0xC0000004
    ∷ 0x80000007 ∷ 0xB0000033 ∷ 0x00000002 ∷ 0xC0000005 ∷ 0xCFFFFFFF ∷ 0xC0000005 ∷ 0xC0000005 ∷ []

abbrev shortcut_findings : List Finding
shortcut_findings = Forbid 3 1 ∷ Forbid 4 0 ∷ Forbid 5 0 ∷ Forbid 5 1 ∷ []

shortcut-judged : Judges shortcut shortcut_lemmas (MayForbid 3 1 6 19) shortcut_records (0xD0000002 ∷ [])
unfolding
    program ranges rows end coefs row assignment sets action due one times many sets_variable lemma list assigned plus_times combine
    dot corner first_off zero_on conjuncts explored visited turns links_in literals_in among all_among applies set_of contradicted forbids runs_off rangeEnds
    findings_from edge_row records_of back
shortcut-judged = judged shortcut shortcut_lemmas (MayForbid 3 1 6 19) shortcut_records (0xD0000002 ∷ []) (λ gl pl. refl)

shortcut-listed : Lists shortcut shortcut_lemmas 4 shortcut_records (map finding_word shortcut_findings)
unfolding
    program ranges rows end coefs row assignment sets action due one times many sets_variable lemma list assigned plus_times combine
    dot corner first_off zero_on conjuncts explored visited turns links_in literals_in among all_among applies set_of contradicted forbids runs_off rangeEnds
    findings_from edge_row records_of
shortcut-listed = fits shortcut shortcut_lemmas shortcut_records shortcut_findings (λ gl fl. refl)

-- in what Judge leaves: one step; two lead to the same node, and two to that of the second finding; and how far the three nodes with findings are
left-told : (gl pl : List ℕ) → let j = left (MayForbid 3 1 6 19) shortcut_records (0xD0000002 ∷ []) gl pl in
    (steps_in j.path ≡ 2 ∷ []) × (walk_end 4 j.graph 0 (2 ∷ []) ≡ To 3) × (walk_end 4 j.graph 0 (1 ∷ 0 ∷ []) ≡ To 3) × (walk_end 4 j.graph 0 (1 ∷ 3 ∷ []) ≡ To 4)
    × (map (λ k. get_or j.graph (record_place 4 k + distance_offset) 0) (3 ∷ 4 ∷ 5 ∷ []) ≡ 1 ∷ 2 ∷ 2 ∷ [])
unfolding steps_in walk_end
left-told gl pl = (refl, refl, refl, refl, refl)

-- ---- the lines that are printed for its bytes
shortcut-words : (words_in (bytes_of (shortcut ++ shortcut_lemmas)) ≡ shortcut ++ shortcut_lemmas) × (logic_in (shortcut ++ shortcut_lemmas) ≡ shortcut) × (lemmas_in (shortcut ++ shortcut_lemmas) ≡ shortcut_lemmas)
unfolding words_of bytes_of logic_length
shortcut-words = (refl, refl, refl)

abbrev shortcut_lines : List ℕ
shortcut_lines = text "FORBID node 3 bad 1\nPATH 2\n"

shortcut_lines_lem : lines_of (bytes_of (shortcut ++ shortcut_lemmas)) ≡ shortcut_lines
unfolding lines_of of_bytes shown_lines bytes_of answer_lines path_line step_text steps_in line decimal spelled
shortcut_lines_lem =
    let (words, logic, lemmas) = shortcut-words in
    rw (words, logic, lemmas, shortcut-judged (zeros graph_words) (zeros path_words) (long graph_words) (long path_words)) spelled_out
  where
    spelled_out : (let j = left (MayForbid 3 1 6 19) shortcut_records (0xD0000002 ∷ []) (zeros graph_words) (zeros path_words) in answer_lines j.answer j.path) ≡ shortcut_lines
    spelled_out = refl

pub two_distances : (ws : List ℕ) × (lemmas : List ℕ) × (lines_of (bytes_of (ws ++ lemmas)) ≡ text "FORBID node 3 bad 1\nPATH 2\n")
    × ((gl pl fl : List ℕ) → graph_words ≤ length gl → path_words ≤ length pl → 4 ≤ length fl → let j = judge ws lemmas gl pl in
    (j.answer ≡ Ok (MayForbid 3 1 6 19)) × (steps_in j.path ≡ 2 ∷ []) × (walk_end 4 j.graph 0 (2 ∷ []) ≡ To 3) × (walk_end 4 j.graph 0 (1 ∷ 0 ∷ []) ≡ To 3) × (walk_end 4 j.graph 0 (1 ∷ 3 ∷ []) ≡ To 4)
    × (map (λ k. get_or j.graph (record_place 4 k + distance_offset) 0) (3 ∷ 4 ∷ 5 ∷ []) ≡ 1 ∷ 2 ∷ 2 ∷ [])
    × (take 4 (listing ws lemmas gl fl).list ≡ map finding_word (Forbid 3 1 ∷ Forbid 4 0 ∷ Forbid 5 0 ∷ Forbid 5 1 ∷ [])))
two_distances = (
  shortcut,
  shortcut_lemmas,
  shortcut_lines_lem,
  λ gl pl fl roomy long room.
      let (step, path, longer, further, distances) = left-told gl pl in
      rw (shortcut-judged gl pl roomy long, shortcut-listed gl fl roomy room)
      (refl, step, path, longer, further, distances, take_at (map finding_word shortcut_findings) (replicate (length fl - 4) 0) 4 refl),
)
