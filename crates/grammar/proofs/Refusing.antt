-- A list of words that is no program is refused with 2, 3 or 4.
use mathlib.Core.Path.{◌≡◌}
use mathlib.Core.Bool.{Bool, true, false, cond}
use mathlib.Core.List.{List, [], ◌∷◌}
use Prim.Native.Nat.{ℕ, zero, suc, ◌≤◌}
use native.Mathlib.Omega.{arith}
use lib.IntN.{pos}
use Rattle.words.specs.Words.{TERM}
use Rattle.words.specs.Refusals.{number}
use Rattle.words.specs.declared.Refusal.{Refusal}
use Rattle.words.specs.declared.Refusal.TheVariants.{Word, Limit, Value}
use Rattle.grammar.specs.Reading.{Read, Reader, got, refused, due, after, ◌>>=◌, one, begins, optional, times, many}
use Rattle.grammar.specs.Programs.{Program}
use Rattle.grammar.specs.Grammar.{begins_term, coefs, row, rows, assignment, sets, action, nothing, end, ranges, program}

-- the refusal, if there is one, is 2, 3 or 4
data Mild {A : Type 0} : Read A → Type 0 where
  fine : {a : A} {ws : List ℕ} {i : ℕ} → Mild (got a ws i)
  due-here : {r : Refusal} → 2 ≤ number r → number r ≤ 4 → Mild (refused r)

module _ {A : Type 0} where
  abbrev Milds : Reader A → Type 0
  Milds m = (ws : List ℕ) (i : ℕ) → Mild (m ws i)

  due-mild : (b : Bool) (r : Refusal) (x : Read A) → 2 ≤ number r → number r ≤ 4 → Mild x → Mild (due b r x)
  unfolding due
  due-mild true r x l h m = m
  due-mild false r x l h m = due-here l h

  optional-milds : (test : List ℕ → Bool) (item : Reader A) (absent : A) → Milds item → Milds (optional test item absent)
  optional-milds test item absent m ws i = go (test ws)
    where
      go : (b : Bool) → Mild (cond b (item ws i) (got absent ws i))
      go true = m ws i
      go false = fine

module _ {A B : Type 0} where
  after-mild : (x : Read A) (f : A → Reader B) → Mild x → ((a : A) → Milds (f a)) → Mild (after x f)
  after-mild (got a ws i) f m k = k a ws i
  after-mild (refused r) f (due-here l h) k = due-here l h

  bind-milds : (m : Reader A) (f : A → Reader B) → Milds m → ((a : A) → Milds (f a)) → Milds (m >>= f)
  bind-milds m f h k ws i = after-mild (m ws i) f (h ws i) k

one_milds : (kind : ℕ) (named within allowed : ℕ → Bool) → Milds (one kind named within allowed)
unfolding one
one_milds kind named within allowed [] i = due-here {r = Word i} (omega arith) (omega arith)
one_milds kind named within allowed (w ∷ ws) i =
    due-mild _ (Word i) _ (omega arith) (omega arith) (due-mild _ (Limit i) _ (omega arith) (omega arith) (due-mild _ (Value i) _ (omega arith) (omega arith) fine))

module _ {A : Type 0} where
  times-milds : (n : ℕ) (item : Reader A) → Milds item → Milds (times n item)
  unfolding times
  times-milds zero item m ws i = fine
  times-milds (suc n) item m ws i = bind-milds item _ m (λ x. bind-milds (times n item) _ (times-milds n item m) (λ xs us k. fine)) ws i

  many-milds : (kind : ℕ) (item : Bool → Reader A) (n : ℕ) → ((room : Bool) → Milds (item room)) → Milds (many kind item n)
  unfolding many
  many-milds kind item zero m ws i = optional-milds (begins kind) _ [] (bind-milds (item false) _ (m false) (λ x us k. fine)) ws i
  many-milds kind item (suc n) m ws i =
      optional-milds (begins kind) _ [] (bind-milds (item true) _ (m true) (λ x. bind-milds (many kind item n) _ (many-milds kind item n m) (λ xs us k. fine))) ws i

coefs_milds : (n v : ℕ) → Milds (coefs n v)
unfolding coefs
coefs_milds zero v ws i = optional-milds (begins TERM) _ [] (bind-milds _ _ (one_milds _ _ _ _) (λ w us k. fine)) ws i
coefs_milds (suc n) v ws i =
    bind-milds _ _ (optional-milds (begins_term v) _ (pos 0) (bind-milds _ _ (one_milds _ _ _ _) (λ w us k. fine))) (λ c. bind-milds (coefs n (suc v)) _ (coefs_milds n (suc v)) (λ cs us k. fine)) ws i

row_milds : (vars : ℕ) → Milds (row vars)
unfolding row
row_milds vars = bind-milds _ _ (one_milds _ _ _ _) (λ w. bind-milds _ _ (coefs_milds vars 0) (λ cs us k. fine))

rows_milds : (kind most vars : ℕ) → Milds (rows kind most vars)
unfolding rows
rows_milds kind most vars = bind-milds _ _ (one_milds _ _ _ _) (λ w. times-milds _ _ (row_milds vars))

assignment_milds : (vars v : ℕ) → Milds (assignment vars v)
unfolding assignment
assignment_milds vars v = bind-milds _ _ (one_milds _ _ _ _) (λ w. bind-milds _ _ (row_milds vars) (λ r us k. fine))

sets_milds : (vars n v : ℕ) → Milds (sets vars n v)
unfolding sets
sets_milds vars zero v ws i = fine
sets_milds vars (suc n) v ws i = bind-milds _ _ (assignment_milds vars v) (λ s. bind-milds _ _ (sets_milds vars n _) (λ ss us k. fine)) ws i

action_milds : (vars : ℕ) (room : Bool) → Milds (action vars room)
unfolding action
action_milds vars room =
    bind-milds _ _ (one_milds _ _ _ _) (λ w. bind-milds _ _ (times-milds _ _ (row_milds vars)) (λ gs. bind-milds _ _ (sets_milds vars _ 0) (λ ss us k. fine)))

nothing_milds : Milds nothing
nothing_milds [] i = fine
nothing_milds (w ∷ ws) i = due-here {r = Word i} (omega arith) (omega arith)

end_milds : Milds end
unfolding end
end_milds = bind-milds _ _ (one_milds _ _ _ _) (λ w. nothing_milds)

ranges_milds : Milds ranges
unfolding ranges
ranges_milds =
    let range-milds = bind-milds _ _ (one_milds _ _ _ _) (λ w us k. fine) in
    bind-milds _ _ range-milds (λ r. bind-milds _ _ (many-milds _ _ 7 (λ room. bind-milds _ _ (one_milds _ _ _ _) (λ w us k. fine))) (λ rs us k. fine))

program_milds : Milds program
unfolding program
program_milds =
    bind-milds _ _ ranges_milds (λ gs. bind-milds _ _ (rows_milds _ 8 _) (λ start. bind-milds _ _ (rows_milds _ 14 _) (λ preds.
    bind-milds _ _ (many-milds _ _ 16 (action_milds _)) (λ actions. bind-milds _ _ (many-milds _ _ 8 (λ room. bind-milds _ _ (one_milds _ _ _ _) (λ w us k. fine)))
    (λ forbidden. bind-milds _ _ end_milds (λ e us k. fine))))))

pub program_refusal : (ws : List ℕ) (i : ℕ) {r : Refusal} → program ws i ≡ refused r → (2 ≤ number r) × (number r ≤ 4)
program_refusal ws i {r} e = go (program ws i) e (program_milds ws i)
  where
    go : (x : Read Program) → x ≡ refused r → Mild x → (2 ≤ number r) × (number r ≤ 4)
    go (got p us k) q m = let z : ◌≡◌ {A = ℕ} 0 1 = cc in absurd (omega arith)
    go (refused t) q (due-here l h) = let same : t ≡ r = cc in rw (← same) (l, h)
