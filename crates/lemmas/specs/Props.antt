-- Why a ghost field may hold `Held`.
--
-- Held-prop — `Held` has one proof at most
use Rattle.std.specs.Prelude.{List, [], ◌∷◌, ℕ, suc}
use Rattle.std.specs.Coded.{×_prop, Unit-prop}
use Rattle.std.proofs.Props.{props}
use Rattle.grammar.specs.Programs.{Assignment}
use Rattle.grammar.specs.WellFormed.{Each, Rising}
use Rattle.programs.specs.declared.Image.{Image}
use Rattle.lemmas.specs.Sources.{Held}

Each-prop : {A : Type 0} {P : A → Type 0} → ((x : A) → IsProp (P x)) → (xs : List A) → IsProp (Each P xs)
Each-prop each [] = Unit-prop
Each-prop each (x ∷ xs) = ×_prop (each x) (Each-prop each xs)

Rising-prop : (vars v : ℕ) (ss : List Assignment) → IsProp (Rising vars v ss)
Rising-prop vars v [] = Unit-prop
Rising-prop vars v (s ∷ ss) = ×_prop (hlevel (Each-prop, props)) (Rising-prop vars (suc s.variable) ss)

pub Held-prop : {ws : List ℕ} {image : Image} → IsProp (Held ws image)
Held-prop = hlevel (Each-prop, Rising-prop, props)
