use mathlib.Core.Path.{◌≡◌, refl, sym}
use Prim.Native.Nat.{◌/◌}
use native.Mathlib.Omega.{arith}
use lib.ListN.{get_or, take}
use Rattle.std.proofs.lemmas.List.{take_all}
use Rattle.gather.proofs.Tables.{no_entry, Pending, pending_moved, pending-hit, pending-miss, pending_done}
use Rattle.gather.proofs.gather_all.Goals as goal
use Rattle.gather.proofs.gather_all.Goals.{then-j-a, else-j-a, then-action-lt16, else-action-lt16}

pub loop-entry-preserved : goal.loop-entry-preserved
loop-entry-preserved c =
    let s = c.args in
    let l = c.loop-entry in
    elim c.if-action-lt16.branch [
      | then-action-lt16 w ↦
          -- the word of the entry's action is the one that is not written
          let m : (w.if-j-a.a ≡ (get_or s.entries.now l.entry-index no_entry).key / 64) × Pending c.all_kept-t.result s.node (take l.entry-index s.entries.now) w.if-j-a.t w.if-j-a.a w.if-j-a.g =
          elim w.if-j-a.branch [
            | then-j-a v ↦ rw (v.t-is, v.a-is, v.g-is) (refl, pending_moved _ l.invariant (omega arith))
            | else-j-a v ↦ rw (v.t-is, v.a-is, v.g-is) (sym v.if-j-a.false, l.invariant)
          ] in
          rw (w.t-is, w.a-is, w.g-is) (pending-hit c.all_kept-t.result s.node s.entries.now l.entry-index (omega arith) m.1 w.with_entry-g.result m.0 w.with_entry-g.ensures)
      | else-action-lt16 w ↦
          rw (w.t-is, w.a-is, w.g-is) (pending-miss c.all_kept-t.result s.node s.entries.now l.entry-index (omega arith) l.invariant w.if-action-lt16.false)
    ]

pub returns : goal.returns
returns c =
    let l = c.loop-entry in
    rw (take_all l.entry-index c.args.entries.now (omega arith)) at (pending_done c.all_kept-t.ensures l.invariant)
