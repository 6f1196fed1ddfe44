-- A ring is refused memory only where it may have so many slots.
use Rattle.std.proofs.Common.{◌≡◌, ◌∙◌, ◌≤◌, ◌<◌, ◌↔◌, nat_le, nat_lt, refl, sym, ℕ, Bool, true, false, Result, Err}
use Rattle.std.specs.Int.{is_power_of_two}
use Rattle.std.proofs.lemmas.Bool.{leb-true, le-leb, ltb-true, lt-ltb, false≢true}
use Rattle.fl_ring.specs.Duo.{MayHaveSlots}
use Rattle.fl_ring.specs.declared.fault.RingFault.{RingFault}
use Rattle.fl_ring.specs.declared.fault.RingFault.TheVariants.{BadSize, Memory}

-- a size that isn't wrong is right
not_wrong : (n : ℕ) → ((MayHaveSlots n → ⊥) → ⊥) → MayHaveSlots n
not_wrong n h = (more (nat_lt 3 n) refl, few (nat_le n 1024) refl, power (is_power_of_two n) refl) where
  more : (b : Bool) → nat_lt 3 n ≡ b → 3 < n
  more true e = ltb-true 3 n e
  more false e = absurd (h (λ m. false≢true (sym e ∙ lt-ltb 3 n m.0)))

  few : (b : Bool) → nat_le n 1024 ≡ b → n ≤ 1024
  few true e = leb-true n 1024 e
  few false e = absurd (h (λ m. false≢true (sym e ∙ le-leb n 1024 m.1)))

  power : (b : Bool) → is_power_of_two n ≡ b → is_power_of_two n ≡ true
  power true e = e
  power false e = absurd (h (λ m. false≢true (sym e ∙ m.2)))

same_fault : {X : Type 0} (f g : RingFault) → (let e : Result X RingFault = Err f in e) ≡ Err g → f ≡ g
same_fault f g e = cc

-- no memory is a ring's only other fault
pub sized_by : {X : Type 0} (r : Result X RingFault) (n : ℕ) (f : RingFault) → r ≡ Err f → f ≡ Memory → (r ≡ Err BadSize) ↔ (MayHaveSlots n → ⊥) → MayHaveSlots n
sized_by r n f is other both = not_wrong n wrong where
  wrong : (MayHaveSlots n → ⊥) → ⊥
  wrong bad = let no : Memory ≡ BadSize = sym other ∙ same_fault f BadSize (sym is ∙ both.1 bad) in absurd (cc)
