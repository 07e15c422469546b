-- Each way through a report.
use mathlib.Core.Path.{◌≡◌, refl, sym, ap, ◌∙◌}
use mathlib.Core.Bool.{Bool, true, false, cond}
use mathlib.Core.List.{List, [], ◌++◌, cons≢nil}
use Prim.Native.Nat.{ℕ, ◌<◌, ◌≤◌}
use native.Mathlib.Omega.{arith}
use lib.ListN.{length, take, drop, length-append}
use lib.Seq.{take_at}
use lib.Dec.{ltb}
use borrow.Author.Tests.{lt-ltb, le-ltb}
use Rattle.records.specs.Records.{graph_words}
use Rattle.verdict.specs.Verdicts.{path_words}
use Rattle.std.specs.Prelude.{Result}
use Rattle.show.specs.declared.Answered.{Answered}
use Rattle.show.specs.declared.Unread.{Unread}
use Rattle.show.specs.Show.{most_bytes, show_words, of_bytes, show, SafeShow}
use Rattle.lines.specs.Text.{text}
use Rattle.lines.specs.Puts.{Put}
use Rattle.lines.proofs.Puts.{at_front}
use Rattle.report.specs.Report.{lines_room, zeros, shown_lines, lines_of, written, path_line, Begins, Ends, ShortestShow}
use Rattle.report.proofs.SafeLine.{show-safe}
use Rattle.report.proofs.PathLine.{no_lines, path-line}

-- the lists that are lent are fresh, and there is room for the words
pub with_fresh : (b wl gl pl : List ℕ) (a : Result Answered Unread) (q : List ℕ) → show_words ≤ length wl → gl ≡ zeros graph_words → pl ≡ zeros path_words
    → a ≡ (show b wl gl pl).answer → q ≡ (show b wl gl pl).path → shown_lines a q ≡ lines_of b
unfolding lines_of
with_fresh b wl gl pl a q h eg ep ea eq = rw (ea, eq, le-ltb (length wl) show_words h, eg, ep)

abbrev pub Reported : List ℕ → List ℕ → List ℕ → ℕ → Type 0
Reported b lines out r = (out ≡ written b lines ++ drop (length (written b lines)) lines) × (r ≡ length (written b lines))

pub cut : (b more : List ℕ) → most_bytes < length b → lines_of (b ++ more) ≡ lines_of b
unfolding lines_of of_bytes
cut b more h =
    let longer : most_bytes < length (b ++ more) = omega (arith, length-append b more) in
    rw (lt-ltb most_bytes (length (b ++ more)) longer, lt-ltb most_bytes (length b) h)

module _ (b lines : List ℕ) where
  pub no_room : length lines < lines_room → Reported b lines lines 0
  no_room h = rw (lt-ltb (length lines) lines_room h) (refl, refl)

  pub reported : {out : List ℕ} {r : ℕ} → lines_room ≤ length lines → Put lines 0 (lines_of b) out r → Reported b lines out r
  reported h p = rw (le-ltb (length lines) lines_room h) (at_front p)

-- what is said of the lines is said of what was written: a list that is too short gets nothing
module _ (b lines : List ℕ) {out : List ℕ} {r : ℕ} (p : Reported b lines out r) where
  taken : take r out ≡ written b lines
  taken = ap (take r) p.0 ∙ take_at (written b lines) (drop (length (written b lines)) lines) r (sym p.1)

  pub written-safe : Begins (text "SAFE") (take r out) → SafeShow b
  written-safe h = go (ltb (length lines) lines_room) (rw taken at h)
    where
      go : (short : Bool) → Begins (text "SAFE") (cond short [] (lines_of b)) → SafeShow b
      go true q = absurd (cons≢nil (sym q))
      go false q = show-safe b q

  pub written-shortest : (js : List ℕ) → Ends (path_line js) (take r out) → ShortestShow b (length js)
  written-shortest js h = go (ltb (length lines) lines_room) (rw taken at h)
    where
      go : (short : Bool) → Ends (path_line js) (cond short [] (lines_of b)) → ShortestShow b (length js)
      go true q = no_lines js q
      go false q = path-line b js q
