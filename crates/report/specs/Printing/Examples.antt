-- Lines computed: the examples of 01 and of 02's P1 and P6, refused and accepted; then a text in a buffer that is larger, and in one too small.
use Rattle.std.specs.Prelude.{◌≡◌, refl, [], ◌∷◌}
use Rattle.formula.specs.Decimal.{digits, decimal}
use Rattle.formula.specs.Refusal.{refusal}
use Rattle.formula.specs.declared.refusal.Reason.TheVariants.{BadToken, Blocked}
use Rattle.report.specs.Line.{accepted_line, refused_end, refused_line, used, held}

-- `refused 17 blocked 3 0 0 3 2`
pub refused_example : refused_line (refusal (Blocked (record { variable = record { 0 = 3 }; block = 2 })) 3) ≡ 114 ∷ 101 ∷ 102 ∷ 117 ∷ 115 ∷ 101 ∷ 100 ∷ 32 ∷ 49 ∷ 55 ∷ 32 ∷ 98 ∷ 108 ∷ 111 ∷ 99 ∷ 107 ∷ 101 ∷ 100 ∷ 32 ∷ 51 ∷ 32 ∷ 48 ∷ 32 ∷ 48 ∷ 32 ∷ 51 ∷ 32 ∷ 50 ∷ 10 ∷ []
unfolding refused_line refused_end decimal digits
refused_example = refl

-- `refused 4 bad token 18 3 1`
pub refused_text_example : refused_line (record { reason = BadToken; place = 18; line = 3; column = 1 }) ≡ 114 ∷ 101 ∷ 102 ∷ 117 ∷ 115 ∷ 101 ∷ 100 ∷ 32 ∷ 52 ∷ 32 ∷ 98 ∷ 97 ∷ 100 ∷ 32 ∷ 116 ∷ 111 ∷ 107 ∷ 101 ∷ 110 ∷ 32 ∷ 49 ∷ 56 ∷ 32 ∷ 51 ∷ 32 ∷ 49 ∷ 10 ∷ []
unfolding refused_line refused_end decimal digits
refused_text_example = refl

-- `accepted 4 4 5 9`
pub accepted_example : accepted_line 4 4 5 9 ≡ 97 ∷ 99 ∷ 99 ∷ 101 ∷ 112 ∷ 116 ∷ 101 ∷ 100 ∷ 32 ∷ 52 ∷ 32 ∷ 52 ∷ 32 ∷ 53 ∷ 32 ∷ 57 ∷ 10 ∷ []
unfolding accepted_line decimal digits
accepted_example = refl

-- Two bytes of text, and room for three or for one.
pub room_examples : (used (56 ∷ 10 ∷ []) 3 ≡ 2) × (held (56 ∷ 10 ∷ []) 3 ≡ 56 ∷ 10 ∷ 0 ∷ []) × (used (56 ∷ 10 ∷ []) 1 ≡ 0) × (held (56 ∷ 10 ∷ []) 1 ≡ 0 ∷ [])
room_examples = (refl, refl, refl, refl)
