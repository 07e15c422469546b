-- The third word of a node's record, in the list that a verdict leaves: of kind 0, and its payload is the length of the path to the node.
use mathlib.Core.Path.{◌≡◌, ap, ◌∙◌}
use mathlib.Core.List.{List}
use Prim.Native.Nat.{ℕ, ◌+◌, ◌<◌}
use native.Mathlib.Omega.{arith}
use lib.ListN.{length, get_or}
use Rattle.words.specs.Words.{kind_of, payload, DISTANCE}
use Rattle.words.proofs.Laws.{kind_word, payload-word}
use Rattle.grammar.specs.Programs.{Program}
use Rattle.lemmas.specs.Lemmas.{Lemma}
use Rattle.search.specs.Search.{Graph, count, distance}
use Rattle.records.specs.Records.{most_nodes, distance_word, distance_offset, record_place}
use Rattle.records.proofs.Listed.{record_at}
use Rattle.abstraction.proofs.Unique.{distance-number, distance-path}
use Rattle.verdict.specs.Verdicts.{steps_to}
use Rattle.judge.specs.Worth.{Drawn}

pub distance-words : (p : Program) (ls : List Lemma) (g : Graph) (nodes edges : ℕ) (before after : List ℕ) → Drawn p ls g nodes edges before after → (k : ℕ) → k < count g
    → let w = get_or after (record_place (length p.actions) k + distance_offset) 0 in (kind_of w ≡ DISTANCE) × (payload w ≡ distance g k) × (length (steps_to g k) ≡ distance g k)
distance-words p ls g nodes edges before after d k h =
    let low : distance g k < 268435456 = omega (arith, distance-number p ls g d.faithful k h, d.few) in
    let is : get_or after (record_place (length p.actions) k + distance_offset) 0 ≡ distance_word (distance g k) =
    ap (λ (l : List ℕ). get_or l (record_place (length p.actions) k + distance_offset) 0) d.records ∙ record_at (length p.actions) g (count g) _ k distance_offset h (omega arith) in
    (ap kind_of is ∙ kind_word DISTANCE (distance g k) low, ap payload is ∙ payload-word DISTANCE (distance g k) low, distance-path p ls g d.faithful most_nodes k (omega (arith, d.few)) h)
