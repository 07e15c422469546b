-- What Check and Action part answer, for any list of words.
--
-- read                      — the program that a list of words is, or the refusal that is due
-- counts_of, checked, check — Check: the five counts, or the refusal
-- ends_part, up_to_end      — the words up to, but without, the next ACTION, SETS or END
-- parts                     — each ACTION word with the words up to there
-- actions_at                — the index of each ACTION word
-- part_of, action_part      — Action part: the part of ACTION word k, none where the list is refused or has no such word
-- PartOf                    — a list is a part of another
-- place_in, part_place      — the index of ACTION word k, and how many words its part has; 0 and 0 where there is none
-- StandsAt                  — a part's words stand at a place of a list
-- word_at                   — the pointer to a word of a list, from the pointer to the list
use Rattle.std.specs.Prelude.{◌≡◌, Bool, cond, ◌||◌, List, [], ◌∷◌, ℕ, suc, ◌+◌, ◌*◌, ◌≤◌, eqb, length, get_or, take, drop, Result, Ok, Err}
use Rattle.words.specs.Words.{kind_of, ACTION, SETS, END}
use Rattle.words.specs.declared.Refusal.{Refusal}
use Rattle.grammar.specs.Reading.{Read, got, refused}
use Rattle.grammar.specs.Programs.{Program}
use Rattle.grammar.specs.Grammar.{program}
use Rattle.programs.specs.declared.Counts.{Counts}
use Rattle.programs.specs.declared.Part.{Part}

abbrev pub read : List ℕ → Read Program
read ws = program ws 0

abbrev pub counts_of : Program → Counts
counts_of p =
    record {
      variables = length p.ranges;
      start_rows = length p.start;
      predicates = length p.predicates;
      actions = length p.actions;
      forbidden = length p.forbidden;
    }

abbrev pub checked : Read Program → Result Counts Refusal
checked (got p ws i) = Ok (counts_of p)
checked (refused r) = Err r

abbrev pub check : List ℕ → Result Counts Refusal
check ws = checked (read ws)

-- does an action's part end before this word?
abbrev pub ends_part : ℕ → Bool
ends_part w = eqb (kind_of w) ACTION || eqb (kind_of w) SETS || eqb (kind_of w) END

unfoldable pub up_to_end : List ℕ → List ℕ
up_to_end [] = []
up_to_end (w ∷ ws) = cond (ends_part w) [] (w ∷ up_to_end ws)

-- the part of each ACTION word: from it up to, but without, the next ACTION, SETS or END
unfoldable pub parts : List ℕ → List (List ℕ)
parts [] = []
parts (w ∷ ws) = cond (eqb (kind_of w) ACTION) ((w ∷ up_to_end ws) ∷ parts ws) (parts ws)

-- the index of each ACTION word, where the first word of the list has index i
unfoldable pub actions_at : ℕ → List ℕ → List ℕ
actions_at i [] = []
actions_at i (w ∷ ws) = cond (eqb (kind_of w) ACTION) (i ∷ actions_at (suc i) ws) (actions_at (suc i) ws)

abbrev pub part_of : Read Program → List ℕ → ℕ → List ℕ
part_of (got p us i) ws k = get_or (parts ws) k []
part_of (refused r) ws k = []

abbrev pub action_part : List ℕ → ℕ → List ℕ
action_part ws k = part_of (read ws) ws k

abbrev pub PartOf : List ℕ → List ℕ → Type 0
PartOf ws part = (at : ℕ) × (part ≡ take (length part) (drop at ws))

abbrev pub place_in : Read Program → List ℕ → ℕ → Part
place_in (got p us i) ws k = record { start = get_or (actions_at 0 ws) k 0; length = length (get_or (parts ws) k []) }
place_in (refused r) ws k = record { start = 0; length = 0 }

abbrev pub part_place : List ℕ → ℕ → Part
part_place ws k = place_in (read ws) ws k

abbrev pub StandsAt : List ℕ → Part → List ℕ → Type 0
StandsAt ws x part = (x.start + x.length ≤ length ws) × (take x.length (drop x.start ws) ≡ part)

-- a pointer is a block and a byte in it; a word has four bytes
abbrev pub word_at : ℕ × ℕ → ℕ → ℕ × ℕ
word_at list n = (list.0, list.1 + 4 * n)
