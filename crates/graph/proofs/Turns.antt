-- A node's turn: in the middle of it the list holds the graph that the definition has so far, which is not over.
--     turned_as, table_gives, ready_gives              what an action's turn goes by
--     Still, settle, is_over      of a result and a list
--     Going                       after the first j actions: begun, went, stopped, gone
use mathlib.Core.Path.{◌≡◌, refl, sym, ap, ◌∙◌, subst}
use mathlib.Core.Logic.{inl, inr}
use mathlib.Core.List.{List}
use Prim.Native.Nat.{ℕ, suc, ◌+◌, ◌*◌, ◌<◌, ◌≤◌}
use native.Mathlib.Omega.{arith}
use native.Mathlib.Nat.{add-zero}
use native.Mathlib.Numerals.{add-one}
use lib.ListN.{drop, get_or}
use Rattle.words.specs.Words.{payload, literals_of}
use Rattle.words.specs.declared.Literals.{Literals}
use Rattle.gather.specs.declared.Entry.{Entry}
use Rattle.gather.specs.Gathering.{Table, known, successor_of}
use Rattle.ready.specs.Ready.{Ready}
use Rattle.std.specs.Prelude.{Option, Some, None}
use Rattle.search.specs.Search.{Answer, Origin, From, Graph, Result, Done, Over, count, links, node_word, answered, acted, turns}
use Rattle.search.proofs.Steps.{Keeps, turns_keeps, turns-over}
use Rattle.records.specs.Records.{most_nodes, graph_words, record_place}
use Rattle.records.specs.Steps.{Near, Kept, Mid, Fair, Turned}
use Rattle.records.proofs.Places.{first-at}
use Rattle.graph.specs.Graph.{answer_of, next_of, Usable}

-- a turn by an answer is one by any answer equal to it
pub turned_as : (o : Origin) {l l' : List ℕ} {a n x e e' : ℕ} {r : Option (ℕ × ℕ)} (y z : Answer) → y ≡ z
    → Turned (λ g. answered most_nodes g o z) l a n x e r l' e' → Turned (λ g. answered most_nodes g o y) l a n x e r l' e'
turned_as o {l} {l'} {a} {n} {x} {e} {e'} {r} y z same t = subst (λ (u : Answer). Turned (λ g. answered most_nodes g o u) l a n x e r l' e') (sym same) t

-- the table of the set in a node's word gives the successors of that word
pub table_gives : (es : List Entry) (kept : List ℕ) (w u : ℕ) (s : Literals) (t : List ℕ) (j : ℕ) → u ≡ w → s ≡ literals_of u → Table kept s.0 es t → j < 16
    → next_of es kept w j ≡ answer_of (successor_of (get_or t j 0))
table_gives es kept w u s t j e is T h =
    ap (λ (y : ℕ). answer_of (successor_of y))
    (ap (λ (v : ℕ). known (get_or kept j 0) j (payload v) es) (sym e) ∙ ap (λ (v : Literals). known (get_or kept j 0) j v.0 es) (sym is) ∙ sym (T.same j h))

-- the successors that a block has ready for the set u
pub ready_gives : (es : List Entry) (kept : List ℕ) (w u j : ℕ) (s : Option ℕ) → u ≡ payload w → s ≡ successor_of (known (get_or kept j 0) j u es) → next_of es kept w j ≡ answer_of s
ready_gives es kept w u j s e f = ap answer_of (ap (λ (v : ℕ). successor_of (known (get_or kept j 0) j v es)) (sym e) ∙ sym f)

-- a node's set, as the code has it
pub set_at : (w u v : ℕ) (s : Literals) → u ≡ w → s ≡ literals_of u → v ≡ s.0 → v ≡ payload w
set_at w u v s e is f = f ∙ ap (λ (y : Literals). y.0) is ∙ ap payload e

-- a block that has a node's set
pub usable_ready : {kept words rows gone : List ℕ} {es : List Entry} (i w : ℕ) → Usable kept words es rows gone → i < 64 → get_or words i 0 ≡ payload w → Ready kept words es 8 rows gone
usable_ready i w (inl blank) h e = absurd (omega (arith, blank i h, e))
usable_ready i w (inr r) h e = r

abbrev pub Still : List ℕ → Result → List ℕ → ℕ → ℕ → ℕ → ℕ → Type 0
Still l₀ (Done g) l a n x e = Kept l₀ l a n x e g
Still l₀ Over l a n x e = ⊥

pub settle : (l₀ : List ℕ) (r : Result) (l : List ℕ) (a n x e : ℕ) → Mid l₀ r (Some (n, x)) l a e → Still l₀ r l a n x e
settle l₀ (Done g) l a n x e m =
    let q : Some (n, x) ≡ Some (count g, links g) = m.0 in
    let p : (n, x) ≡ (count g, links g) = cc in
    let nodes : n ≡ count g = ap (λ (z : ℕ × ℕ). z.0) p in
    let edges : x ≡ links g = ap (λ (z : ℕ × ℕ). z.1) p in
    rw (nodes, edges) m.1
settle l₀ Over l a n x e m = let z : ◌≡◌ {A = ℕ} 0 1 = (let q : Some (n, x) ≡ None = m in cc) in omega arith

settled : (l₀ : List ℕ) (r : Result) (l : List ℕ) (a n x e : ℕ) → Still l₀ r l a n x e → Mid l₀ r (Some (n, x)) l a e
settled l₀ (Done g) l a n x e h = rw (h.size, h.leading) (refl, h)
settled l₀ Over l a n x e h = absurd h

pub is_over : (l₀ : List ℕ) (r : Result) (l : List ℕ) (a e : ℕ) → Mid l₀ r None l a e → r ≡ Over
is_over l₀ (Done g) l a e m = let z : ◌≡◌ {A = ℕ} 0 1 = (let q : None ≡ Some (count g, links g) = m.0 in cc) in absurd (omega arith)
is_over l₀ Over l a e m = refl

-- G says which successor functions give what the turns go by
pub record Going (G : (ℕ → ℕ → Answer) → Type 0) (l₁ : List ℕ) (n x k a : ℕ) (l : List ℕ) (m y j : ℕ) : Type 0 where
  pub up : n ≤ m
  pub few : m ≤ most_nodes
  pub bound : y ≤ k * a + j
  pub near : Near l a m
  pub tail : drop graph_words l ≡ drop graph_words l₁
  pub held : (f : ℕ → ℕ → Answer) → G f → (l₀ : List ℕ) (g : Graph) → Kept l₀ l₁ a n x (k * a) g → Still l₀ (turns f most_nodes g k j) l a m y (k * a + j)

pub begun : (G : (ℕ → ℕ → Answer) → Type 0) (l : List ℕ) (n x k a : ℕ) → n ≤ most_nodes → x ≤ k * a → Near l a n → Going G l n x k a l n x 0
unfolding turns
begun G l n x k a few bound near = record {
  up = omega arith;
  few = few;
  bound = omega arith;
  near = near;
  tail = refl;
  held = λ f b l₀ g h. rw (add-zero (k * a)) h;
}

module _ (G : (ℕ → ℕ → Answer) → Type 0) (l₁ : List ℕ) (n x k a : ℕ) (l : List ℕ) (m y j : ℕ) (inv : Going G l₁ n x k a l m y j) where
  -- z is what the action's turn went by, as the node's word in l₁ gives it
  module _ (hk : k < n) (z : Answer) (gives : (f : ℕ → ℕ → Answer) → G f → f (get_or l₁ (record_place a k) 0) j ≡ z) (r : Option (ℕ × ℕ)) (l' : List ℕ) (lt : j < a)
      (t : Turned (λ g. answered most_nodes g (From k j) z) l a m y (k * a + j) r l' (k * a + j + 1)) where
    onward : (f : ℕ → ℕ → Answer) → G f → (l₀ : List ℕ) (s : Result) → Keeps k (get_or l₁ (record_place a k) 0) s → Still l₀ s l a m y (k * a + j)
        → Mid l₀ (acted f most_nodes s k j) r l' a (k * a + j + 1)
    onward f b l₀ (Done g) same h =
        let e : f (node_word g k) j ≡ z = ap (λ (w : ℕ). f w j) same.1 ∙ gives f b in
        (turned_as (From k j) (f (node_word g k) j) z e t).held l₀ g h
    onward f b l₀ Over same h = absurd h

    taken : (f : ℕ → ℕ → Answer) → G f → (l₀ : List ℕ) (g : Graph) → Kept l₀ l₁ a n x (k * a) g → Mid l₀ (acted f most_nodes (turns f most_nodes g k j) k j) r l' a (k * a + j + 1)
    taken f b l₀ g h =
        let c = h.size in
        let w : node_word g k ≡ get_or l₁ (record_place a k) 0 = rw (← h.words) (first-at l₁ a n k hk) in
        onward f b l₀ (turns f most_nodes g k j) (turns_keeps f most_nodes k (get_or l₁ (record_place a k) 0) g k j (omega arith, w)) (inv.held f b l₀ g h)

    pub went : (c d : ℕ) → r ≡ Some (c, d) → Going G l₁ n x k a l' c d (j + 1)
    unfolding turns
    went c d is =
        let q : Fair l' a m (k * a + j + 1) (Some (c, d)) = rw is at t.fair in
        let next_place : k * a + (j + 1) ≡ k * a + j + 1 = omega arith in
        record {
          up = omega (arith, inv.up);
          few = q.1;
          bound = omega arith;
          near = q.3;
          tail = t.tail ∙ inv.tail;
          held = λ f b l₀ g h.
              rw (next_place, add-one j)
              (settle l₀ (acted f most_nodes (turns f most_nodes g k j) k j) l' a c d (k * a + j + 1) (rw is at (taken f b l₀ g h)));
        }

    pub stopped : r ≡ None → (f : ℕ → ℕ → Answer) → G f → Turned (λ g. turns f most_nodes g k a) l₁ a n x (k * a) None l' (k * a + a)
    unfolding turns
    stopped is f b = record {
      fair = tt;
      tail = t.tail ∙ inv.tail;
      held = λ l₀ g h.
          let o : turns f most_nodes g k (suc j) ≡ Over = is_over l₀ (acted f most_nodes (turns f most_nodes g k j) k j) l' a (k * a + j + 1) (rw is at (taken f b l₀ g h)) in
          rw (turns-over f most_nodes g k (suc j) a lt o) refl;
    }

  pub gone : j ≡ a → (f : ℕ → ℕ → Answer) → G f → Turned (λ g. turns f most_nodes g k a) l₁ a n x (k * a) (Some (m, y)) l (k * a + a)
  gone e f b = record {
    fair = (inv.up, inv.few, rw e at inv.bound, inv.near);
    tail = inv.tail;
    held = λ l₀ g h. rw e at (settled l₀ (turns f most_nodes g k j) l a m y (k * a + j) (inv.held f b l₀ g h));
  }
