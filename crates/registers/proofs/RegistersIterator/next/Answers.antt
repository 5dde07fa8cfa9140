-- `registers::RegistersIterator::next` meets its contract. Assumes nothing.
use Rattle.std.proofs.Common.{arith, ◌≤◌, ◌≡◌, ◌+◌, ℕ, refl, length}
use Rattle.semantics.specs.Words.{Words, word}
use Rattle.semantics.specs.Registers.{register_count, register_place}
use Rattle.semantics.proofs.Registers.{Whole, register_inside}
use Rattle.registers.proofs.Lists.{whole_length, place_more}
use Rattle.registers.proofs.RegistersIterator.next.Goals as goal

pub bounds-self-0 : goal.bounds-self-0
bounds-self-0 c = whole_length c.args.self.now.stands.0

-- The register that is next stands in the list.
inside : {l : Words} {i at : ℕ} → Whole l × (i ≤ register_count l) × (at ≡ register_place l i) → (i ≡ register_count l → ⊥) → at + 2 + word l (at + 1) ≤ length l
inside {l} {i} s more = rw s.2 (register_inside s.0 i (omega (arith, s.1)))

pub overflow_add-length : goal.overflow_add-length
overflow_add-length c = omega (arith, inside c.args.self.now.stands c.if-self.false)

pub offset_bounds-self-place : goal.offset_bounds-self-place
offset_bounds-self-place c = omega (arith, inside c.args.self.now.stands c.if-self.false)

pub bounds-self-place : goal.bounds-self-place
bounds-self-place c = omega (arith, inside c.args.self.now.stands c.if-self.false)

pub overflow_add-self-2 : goal.overflow_add-self-2
overflow_add-self-2 c = omega (arith, inside c.args.self.now.stands c.if-self.false)

pub overflow_add-self-3 : goal.overflow_add-self-3
overflow_add-self-3 c = omega (arith, inside c.args.self.now.stands c.if-self.false)

pub invariant_of-self : goal.invariant_of-self
invariant_of-self c =
    let s = c.args.self.now.stands in
    record { stands = (s.0, omega (arith, s.1), place_more _ _ s.2 refl) }

pub offset_bounds-self-place-2 : goal.offset_bounds-self-place-2
offset_bounds-self-place-2 c = omega (arith, inside c.args.self.now.stands c.if-self.false)

pub bounds-self-place-2 : goal.bounds-self-place-2
bounds-self-place-2 c = omega (arith, inside c.args.self.now.stands c.if-self.false)
