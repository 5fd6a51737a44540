-- `first_token` passes byte after byte up to the first token. Assumes nothing.
use Rattle.std.proofs.Common.{◌≡◌, ℕ, ◌+◌, [], drop, refl, ap, sym, ◌∙◌, arith, drop_of_length-le}
use Rattle.scanner.proofs.Theorems.Position.Laws.{past_in, small_in}
use Rattle.scanner.specs.Token.{lead_from, lead_place}
use Rattle.scanner.proofs.Theorems.Token.Laws.{lead_byte}
use Rattle.scanner.specs.declared.token.Lead.{Lead}
use Rattle.scanner.specs.declared.token.Lead.TheVariants.{LineStart, InLine, Comment, Over}
use Rattle.scanner.proofs.token.first_token.Goals as goal

-- any state but the last goes on
goes_on : (s : Lead) → (s ≡ Over → ⊥) → (at later : ℕ) → lead_place s at later ≡ later
goes_on LineStart h at later = refl
goes_on InLine h at later = refl
goes_on Comment h at later = refl
goes_on Over h at later = absurd (h refl)

pub returns-in-Over : goal.returns-in-Over
returns-in-Over c =
    let l = c.loop-b in
    let s = c.lead_step-lead.result in
    let text = c.args.text.now in
    let i = l.at.place in
    let step = rw (← l.invariant.2) at c.lead_step-lead.ensures in
    (sym (l.invariant.0 ∙ lead_byte text i l.lead s (rw (← l.invariant.2) at c.loop-b-test.true) step ∙ ap (λ s. lead_place s i (lead_from (i + 1) s (drop (i + 1) text))) c.in-Over.is), l.invariant.1)

pub past-at-requires : goal.past-at-requires
past-at-requires c =
    let l = c.loop-b in
    let s = small_in _ l.at l.invariant.1 c.requires in
    (omega (arith, s.0), omega (arith, s.1), omega (arith, s.2))

pub loop-b-preserved : goal.loop-b-preserved
loop-b-preserved c =
    let l = c.loop-b in
    let s = c.lead_step-lead.result in
    let text = c.args.text.now in
    let h = rw (← l.invariant.2) at c.loop-b-test.true in
    let step = rw (← l.invariant.2) at c.lead_step-lead.ensures in
    let on = rw (← l.invariant.2) at c.past-at.ensures in
    rw (on, ← l.invariant.2) (l.invariant.0 ∙ lead_byte text l.at.place l.lead s h step ∙ goes_on s c.in_default.not-Over _ _, past_in text l.at l.invariant.1 h, refl)

pub returns : goal.returns
unfolding lead_from
returns c =
    let l = c.loop-b in
    let text = c.args.text.now in
    let e : drop l.at.place text ≡ [] = drop_of_length-le text {i = l.at.place} (omega (arith, c.loop-b-test.false, l.invariant.2)) in
    (sym (l.invariant.0 ∙ ap (lead_from l.at.place l.lead) e), l.invariant.1)
