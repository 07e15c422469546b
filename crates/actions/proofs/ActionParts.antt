-- An action from its first word, its guard rows and its assignments.
use mathlib.Core.Path.{◌≡◌, refl, sym, ap, ◌∙◌}
use mathlib.Core.Bool.{Bool, ◌&&◌}
use mathlib.Core.List.{List}
use Prim.Native.Nat.{ℕ, ◌≤◌, ◌<◌}
use lib.Dec.{leb}
use lib.ListN.{length, get_or, drop}
use lib.Seq.{sets as stores}
use Rattle.std.specs.Prelude.{Result, Ok, Err}
use Rattle.words.specs.Words.{bits, ACTION}
use Rattle.words.specs.declared.Refusal.{Refusal}
use Rattle.rows.specs.declared.Row.{Row}
use Rattle.grammar.specs.Reading.{got, one, always, times}
use Rattle.grammar.specs.Grammar.{row, sets, action}
use borrow.Author.Tests.{leb-true}
use Rattle.integers.proofs.Tests.{and-true}
use Rattle.grammar.proofs.ReadingLaws.{one_out, times-codec}
use Rattle.grammar.proofs.RowLaws.{row-codec}
use Rattle.grammar.proofs.ActionLaws.{action_named, action_within}
use Rattle.reader.specs.Results.{next_of, rows_read, zero_rows}
use Rattle.reader.proofs.Laws.{err-out, ok-out, head-refused, head-at}
use Rattle.reader.proofs.RowsLoop.{left_is, left-within}
use Rattle.actions.specs.declared.Sets.{Sets}
use Rattle.actions.specs.declared.Action.{Action}
use Rattle.actions.specs.Results.{sets_read, action_read}

module _ (vars : ℕ) (few : vars ≤ 8) (room : Bool) (ws : List ℕ) (at : ℕ) where
  abbrev head : ℕ
  head = get_or ws at 0

  abbrev pub headWord : Result ℕ Refusal
  headWord = next_of (one ACTION (λ x. action_named head) (λ x. action_within room head) (λ x. always head) (drop at ws) at)

  abbrev answer : Result (Action × ℕ) Refusal
  answer = action_read (action vars room (drop at ws) at)

  -- the guard rows behind the first word, and the assignments behind them
  abbrev pub guardRows : ℕ → Result (List Row × ℕ) Refusal
  guardRows i = rows_read (times (bits 7 4 head) (row vars) (drop i ws) i)

  abbrev pub actionSets : ℕ → Result (Sets × ℕ) Refusal
  actionSets j = sets_read (sets vars (bits 3 0 head) 0 (drop j ws) j)

  pub action-refused : {r : Refusal} → Err r ≡ headWord → Err r ≡ answer
  unfolding action
  action-refused e = rw (head-refused ACTION action_named (action_within room) always ws at at _ e) refl

  module _ {i : ℕ} (e : Ok i ≡ headWord) where
    first : (at < length ws) × (i ≤ length ws) × (one ACTION action_named (action_within room) always (drop at ws) at ≡ got head (drop i ws) i)
    first = head-at ACTION action_named (action_within room) always ws at at i refl e

    pub guards-within : i ≤ length ws
    guards-within = first.1

    pub few-guards : bits 7 4 head ≤ 8
    few-guards =
        let o = one_out ACTION action_named (action_within room) always (drop at ws) at _ _ _ first.2 in
        let (both, sets-few) = and-true (room && leb (bits 7 4 head) 8) (leb (bits 3 0 head) 8) o.within-is in
        leb-true (bits 7 4 head) 8 (and-true room (leb (bits 7 4 head) 8) both).1

    pub guards-refused : {r : Refusal} → Err r ≡ guardRows i → Err r ≡ answer
    unfolding action
    guards-refused f = rw (first.2, err-out _ _ f) refl

    module _ {guard : List Row} {j : ℕ} (f : ◌≡◌ {A = Result (List Row × ℕ) Refusal} (Ok (guard, j)) (guardRows i)) where
      record Guards (gs : List Row) : Type 0 where
        read : times (bits 7 4 head) (row vars) (drop i ws) i ≡ got gs (drop j ws) j
        here : j ≤ length ws
        many : bits 7 4 head ≡ length gs
        stored : guard ≡ stores zero_rows 0 gs

      guards : (gs : List Row) × Guards gs
      guards =
          let (gs, us, n, q, p) = ok-out _ _ f in
          let place : n ≡ j = sym (ap (λ (x : List Row × ℕ). x.1) p) in
          let r : times (bits 7 4 head) (row vars) (drop i ws) i ≡ got gs us j = q ∙ ap (λ (m : ℕ). got gs us m) place in
          let o = (times-codec (row-codec vars few) (bits 7 4 head)).out (drop i ws) i gs us j r in (
            gs,
            record {
              read = rw (left_is ws first.1 o) at r;
              here = left-within ws first.1 o;
              many = sym o.good.0;
              stored = ap (λ (x : List Row × ℕ). x.0) p;
            },
          )

      pub sets-within : j ≤ length ws
      sets-within = guards.1.here

      pub sets-refused : {r : Refusal} → Err r ≡ actionSets j → Err r ≡ answer
      unfolding action
      sets-refused g = rw (first.2, guards.1.read, err-out _ _ g) refl

      pub action-taken : {s : Sets} {k : ℕ} → ◌≡◌ {A = Result (Sets × ℕ) Refusal} (Ok (s, k)) (actionSets j)
          → ◌≡◌ {A = Result (Action × ℕ) Refusal} (Ok (record { guards = bits 7 4 head; guard = guard; rows = s.rows; set = s.set }, k)) answer
      unfolding action
      action-taken g =
          let (ss, vs, n, q, p) = ok-out _ _ g in
          rw (first.2, guards.1.read, q)
          (λ t. Ok (record { guards = guards.1.many t; guard = guards.1.stored t; rows = (p t).0.rows; set = (p t).0.set }, (p t).1))
