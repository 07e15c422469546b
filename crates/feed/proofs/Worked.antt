-- Rows fed by hand, from index 4 on, in a logic of one variable. The first is Fade's first guard row with the SET word behind it.
use mathlib.Core.Path.{◌≡◌, refl}
use mathlib.Core.List.{[], ◌∷◌}
use lib.IntN.{pos, negsuc}
use Rattle.words.specs.declared.Refusal.TheVariants.{Word, Value}
use Rattle.grammar.specs.Reading.{got, refused, due, one}
use Rattle.feed.specs.Steps.{row_step, fed, begun}

-- the SET word completes the row and is left
guard : fed (begun 1 4) (0x2FFFFFFB ∷ 0x30000001 ∷ 0x70000000 ∷ [])
    ≡ got (record { coef = pos 1 ∷ pos 0 ∷ pos 0 ∷ pos 0 ∷ pos 0 ∷ pos 0 ∷ pos 0 ∷ pos 0 ∷ []; constant = negsuc 4 }) (0x70000000 ∷ []) 6
unfolding fed row_step one due
guard = refl

-- the end completes a row after its ROW, and is 2 before it
row_then_end : fed (begun 1 4) (0x2FFFFFFB ∷ [])
    ≡ got (record { coef = pos 0 ∷ pos 0 ∷ pos 0 ∷ pos 0 ∷ pos 0 ∷ pos 0 ∷ pos 0 ∷ pos 0 ∷ []; constant = negsuc 4 }) [] 5
unfolding fed row_step one due
row_then_end = refl

end-at-once : fed (begun 1 4) [] ≡ refused (Word 4)
unfolding fed row_step one
end-at-once = refl

-- a TERM where a ROW is due is 2; one whose variable does not rise, or is not known, is 4
no_row : fed (begun 1 4) (0x30000001 ∷ []) ≡ refused (Word 4)
unfolding fed row_step one due
no_row = refl

twice : fed (begun 1 4) (0x2FFFFFFB ∷ 0x30000001 ∷ 0x30000001 ∷ []) ≡ refused (Value 6)
unfolding fed row_step one due
twice = refl

unknown : fed (begun 1 4) (0x2FFFFFFB ∷ 0x31000001 ∷ []) ≡ refused (Value 5)
unfolding fed row_step one due
unknown = refl
