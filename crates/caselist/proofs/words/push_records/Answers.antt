-- `push_records`: a turn pushes the record of one variable more, up to the last; a last below 1 pushes none. Assumes nothing.
use Rattle.std.proofs.Common.{◌≡◌, pos, ℤ, ◌+ℤ◌, ◌<ℤ◌, w32, to_z, of_z, refl, inl, inr, arith}
use Rattle.std.proofs.lemmas.Int.{ints, to_z-of_z}
use Rattle.std.proofs.lemmas.List.{append-nil}
use Rattle.caselist.proofs.Tokens.{records_zero, recorded, recorded_last, recorded_none}
use Rattle.caselist.proofs.words.push_records.Goals as goal

pub loop-v-init : goal.loop-v-init
loop-v-init c = (omega (arith, ints), inl refl, rw (records_zero c.args.in_turn, append-nil))

pub loop-v-preserved : goal.loop-v-preserved
loop-v-preserved c =
    let v : ℤ = to_z w32 c.loop-v.v-bits in
    let w : ℤ = to_z w32 (of_z w32 (v +ℤ pos 1)) in
    let e : w ≡ v +ℤ pos 1 = grind (arith, ints, to_z-of_z) in
    (omega (arith, ints), inr (grind (arith, ints)), recorded _ _ _ v w _ c.loop-v.invariant.0 e c.loop-v.invariant.2 c.in_ok-push_record.ensures)

pub returns : goal.returns
returns c =
    let v : ℤ = to_z w32 c.loop-v.v-bits in
    let l : c.args.last <ℤ v = grind (arith, ints, to_z-of_z) in
    recorded_none _ _ v c.args.last _ (elim c.loop-v.invariant.1 [ inl e ↦ e | inr h ↦ absurd (grind (arith, ints)) ]) l c.loop-v.invariant.2

pub returns-in_ok-push_record : goal.returns-in_ok-push_record
returns-in_ok-push_record c =
    let v : ℤ = to_z w32 c.loop-v.v-bits in
    let e : v ≡ c.args.last = grind (arith, ints, to_z-of_z) in
    recorded_last _ _ _ v c.args.last _ c.loop-v.invariant.0 e c.loop-v.invariant.2 c.in_ok-push_record.ensures
