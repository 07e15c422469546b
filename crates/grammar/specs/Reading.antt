-- Readers: functions from the words that are left, and the index of the first of them, to a value or the refusal that is due.
--
-- Read     — what reading gives
-- Reader   — a reader of values of a type
-- pure     — reads nothing
-- due      — the refusal, unless the test holds
-- after    — goes on with what was read
-- ◌>>=◌    — one reader after another; `do` is sugar for it
-- one      — one word of a kind, by three tests
-- always   — the test that every word passes
-- begins   — is the next word of this kind?
-- optional — an item, or a value where it is absent
-- times    — exactly n items
-- many     — items as long as the next word is of a kind, at most n
use Rattle.std.specs.Prelude.{Bool, true, false, cond, ◌&&◌, List, [], ◌∷◌, ℕ, zero, suc, eqb}
use Rattle.words.specs.Words.{kind_of}
use Rattle.words.specs.declared.Refusal.{Refusal}
use Rattle.words.specs.declared.Refusal.TheVariants.{Word, Limit, Value}

infixl 20 ◌>>=◌
-- what reading gives: a value, the words that are left and the index of the first of them; or the refusal that is due
pub data Read (A : Type 0) : Type 0 where
  got : A → List ℕ → ℕ → Read A
  refused : Refusal → Read A

-- a reader of the words from an index on
abbrev pub Reader : Type 0 → Type 0
Reader A = List ℕ → ℕ → Read A

module _ {A : Type 0} where
  abbrev pub pure : A → Reader A
  pure a ws i = got a ws i

  unfoldable pub due : Bool → Refusal → Read A → Read A
  due true r x = x
  due false r x = refused r

module _ {A B : Type 0} where
  abbrev pub after : Read A → (A → Reader B) → Read B
  after (got a ws i) f = f a ws i
  after (refused r) f = refused r

  abbrev pub ◌>>=◌ : Reader A → (A → Reader B) → Reader B
  ◌>>=◌ m f ws i = after (m ws i) f

-- one word. Missing, of another kind or with an unnamed bit: 2; past a limit: 3; with a value that is not allowed: 4
unfoldable pub one : ℕ → (ℕ → Bool) → (ℕ → Bool) → (ℕ → Bool) → Reader ℕ
one kind named within allowed [] i = refused (Word i)
one kind named within allowed (w ∷ ws) i =
    due (eqb (kind_of w) kind && named w) (Word i) (due (within w) (Limit i) (due (allowed w) (Value i) (got w ws (suc i))))

abbrev pub always : ℕ → Bool
always w = true

abbrev pub begins : ℕ → List ℕ → Bool
begins kind [] = false
begins kind (w ∷ ws) = eqb (kind_of w) kind

module _ {A : Type 0} where
  -- the item where the test holds of the next words, else the value that stands for its absence
  abbrev pub optional : (List ℕ → Bool) → Reader A → A → Reader A
  optional test item absent ws i = cond (test ws) (item ws i) (got absent ws i)

module _ {A : Type 0} where
  -- exactly n items
  unfoldable pub times : ℕ → Reader A → Reader (List A)
  times zero item = pure []
  times (suc n) item = do
    x ← item
    xs ← times n item
    pure (x ∷ xs)

  -- items as long as the next word is of the kind, at most n: an item is told whether it is within that limit
  unfoldable pub many : ℕ → (Bool → Reader A) → ℕ → Reader (List A)
  many kind item zero = optional (begins kind) (item false >>= λ x. pure (x ∷ [])) []
  many kind item (suc n) = optional (begins kind) (item true >>= λ x. many kind item n >>= λ xs. pure (x ∷ xs)) []
