-- What feeding a fragment of the monitors' interface comes to.
use Rattle.std.proofs.Common.{◌≡◌, ◌^◌, ◌*◌, ◌/◌, ◌%◌, ℕ, inl, inr, Bool, true, false, not, if◌then◌else◌, List, [], ◌∷◌, ◌++◌, refl, sym, ◌∙◌, ap, subst, arith, Some, None, map}
use Rattle.fl_base.specs.declared.fragment.Frag.{Frag}
use Rattle.fl_base.specs.Control.{bare, message_of}
use Rattle.fl_interface.specs.Interface.{TheInterface}
use Rattle.fl_value_data.specs.Value.{TheCall}
use Rattle.fl_value_data.specs.Fits.{fits_of}
use Rattle.fl_value_data.specs.Tape.{tape_of}
use Rattle.fl_value_data.specs.declared.value.PlanNo.{PlanNo}
use Rattle.fl_value_data.specs.declared.value.PlanNo.TheVariants.{One}
use Rattle.fl_wire.specs.Payload.{frags_on}
use Rattle.fl_wire.specs.Reading.{Means, IsWrong}
use Rattle.fl_wire.specs.Wrong.{HasFault, WrongByte}
use Rattle.fl_wire.specs.declared.fault.WireFault.{WireFault}
use Rattle.fl_wire.specs.declared.fault.WireFault.TheVariants.{NotFirst, FirstInside, UnknownMessage, NotZero, OutOfType, TooLong, Memory}
use Rattle.fl_wire.proofs.Unread.{one_fits}
use Rattle.fl_compile.proofs.OneFault.{one_fault}
use Rattle.fl_machine.specs.Receiving.{TheHeld, AddsPart, AddsLast, IsRefused, IsTapeOf}
use Rattle.fl_machine.specs.declared.intake.Fed.{Fed}
use Rattle.fl_machine.specs.declared.intake.Fed.TheVariants.{Part, Whole}
use Rattle.fl_monitor.specs.declared.message.MonitorMessage.{MonitorMessage}
use Rattle.fl_monitor.specs.Intermon.{intermon, call_for}
use Rattle.fl_monitor.specs.Saying.{Says, Refuses, RefusedForOne}
use Rattle.fl_monitor.specs.Tapes.{message_on, IsTapeOfMessage}
use Rattle.fl_monitor.proofs.Calls.{widths_fit, fit_widths, each_call}
use Rattle.fl_monitor.proofs.Numbers.{read_back}
use Rattle.fl_monitor.proofs.Single.{none_is_part, says_alone}
use Rattle.fl_monitor.proofs.Tapes.{tape_is}

-- what holds of a run's plan, interface and fragments holds of plan 1, the monitors' interface and none
carry : (P : PlanNo → TheInterface → List Frag → Type 0) (plan : PlanNo) (i : TheInterface) (parts : List Frag) → plan ≡ One → i ≡ intermon → parts ≡ [] → P plan i parts → P One intermon []
carry P plan i parts plan_is i_is parts_is h =
    subst (P One intermon) parts_is (subst (λ (j : TheInterface). P One j parts) i_is (subst (λ (q : PlanNo). P q i parts) plan_is h))

-- ---- an accepted fragment is a whole call's

pub ended : (f : Frag) (t : TheHeld) (plan : PlanNo) (i : TheInterface) (parts : List Frag) (fed : Fed) → plan ≡ One → i ≡ intermon → parts ≡ []
    → (fed ≡ Part → AddsPart plan i parts f t) → (fed ≡ Whole → AddsLast plan i parts f t) → AddsLast One intermon [] f t
ended f t plan i parts Part plan_is i_is parts_is part whole =
    absurd (none_is_part f [] (AddsPart.part (carry (λ p j fs. AddsPart p j fs f t) plan i parts plan_is i_is parts_is (part refl))))
ended f t plan i parts Whole plan_is i_is parts_is part whole = carry (λ p j fs. AddsLast p j fs f t) plan i parts plan_is i_is parts_is (whole refl)

pub not_empty : (f : Frag) (t : TheHeld) → AddsLast One intermon [] f t → t.whole ≡ [] → ⊥
not_empty f t last e =
    let whole : bare f ∷ [] ≡ [] = sym last.whole_is ∙ e in
    absurd (cc)

bare_twice : (f : Frag) → bare (bare f) ≡ bare f
bare_twice f =
    let same : 2 * (2 * (f.control / 2 % 2 ^ 47) / 2 % 2 ^ 47) ≡ 2 * (f.control / 2 % 2 ^ 47) = omega arith in
    λ k. record { words = f.words; control = same k }

-- the message whose call the run then gives
pub says_call : (f : Frag) (t : TheHeld) (plan : PlanNo) (i : TheInterface) (c : TheCall) (m : MonitorMessage) → plan ≡ One → i ≡ intermon
    → AddsLast One intermon [] f t → fits_of i c ≡ true → Means plan i t.whole c 0 → call_for m ≡ c → Says f m
says_call f t plan i c m plan_is i_is last fits means is =
    let fits_it : fits_of intermon (call_for m) ≡ true = ap (fits_of intermon) is ∙ subst (λ (j : TheInterface). fits_of j c ≡ true) i_is fits in
    let whole : map bare t.whole ≡ bare f ∷ [] = ap (map bare) last.whole_is ∙ (λ k. bare_twice f k ∷ []) in
    let at : Means One intermon t.whole c 0 = subst (λ (j : TheInterface). Means One j t.whole c 0) i_is (subst (λ (q : PlanNo). Means q i t.whole c 0) plan_is means) in
    record {
      widths = fit_widths m fits_it;
      means = sym whole ∙ at ∙ ap (λ (d : TheCall). frags_on 0 One intermon d) (sym is);
    }

-- a fragment says this message, whose number and tape these are
pub record Tells (f : Frag) (number : ℕ) (tape : List ℕ) : Type 0 where
  pub told : IsTapeOfMessage number tape
  pub says : Says f told.message

-- the message whose tape the run then has
pub tells : (f : Frag) (t : TheHeld) (plan : PlanNo) (i : TheInterface) (number : ℕ) (tape : List ℕ) → plan ≡ One → i ≡ intermon
    → AddsLast One intermon [] f t → number ≡ message_of f.control → IsTapeOf plan i t.whole tape → Tells f number tape
tells f t plan i number tape plan_is i_is last number_is w =
    let m = each_call w.call (subst (λ (j : TheInterface). fits_of j w.call ≡ true) i_is w.fits) in
    let says = says_call f t plan i w.call m.0 plan_is i_is last w.fits w.means m.2 in
    let under : tape ≡ tape_of One intermon w.call = w.tape_is ∙ (λ k. tape_of (plan_is k) (i_is k) w.call) in
    record {
      told = record {
        message = m.0;
        widths = m.1;
        number_is = number_is ∙ (says_alone f m.0 says).number;
        tape_is = under ∙ ap (tape_of One intermon) (sym m.2) ∙ tape_is m.0 m.1;
      };
      says = says;
    }

-- and it is what is read
pub says_read : (f : Frag) (number : ℕ) (tape : List ℕ) (m : MonitorMessage) → Tells f number tape → m ≡ message_on number tape → Says f m
says_read f number tape m t is = subst (Says f) (sym (is ∙ read_back number tape t.told)) t.says

-- ---- a refused fragment says nothing

pub not_wrong : (f : Frag) (m : MonitorMessage) → Says f m → IsWrong One intermon (f ∷ []) → ⊥
not_wrong f m s wrong = wrong (call_for m ∷ []) [] (one_fits intermon (call_for m) (widths_fit m s.widths)) (ap (λ (fs : List Frag). fs ++ []) (sym s.means))

no_memory_first : (a b c : Bool) → (if not a then Some NotZero else (if not b then Some NotFirst else (if c then None else Some UnknownMessage))) ≡ Some Memory → ⊥
no_memory_first false b c e = absurd (cc)
no_memory_first true false c e = absurd (cc)
no_memory_first true true false e = absurd (cc)
no_memory_first true true true e = absurd (cc)

no_memory_later : (a b : Bool) → Memory ≡ (if a then TooLong else (if b then OutOfType else NotZero)) → ⊥
no_memory_later true b e = absurd (cc)
no_memory_later false true e = absurd (cc)
no_memory_later false false e = absurd (cc)

no_memory : (f : Frag) → HasFault One intermon [] f Memory → ⊥
no_memory f (inl h) = no_memory_first _ _ _ h
no_memory f (inr h) = no_memory_later _ _ (WrongByte.is h.1)

refused_by : (f : Frag) (fault : WireFault) → IsRefused One intermon [] f fault → Refuses f fault
refused_by f NotFirst r = (r.first, r.wrong)
refused_by f FirstInside r = (r.first, r.wrong)
refused_by f UnknownMessage r = (r.first, r.wrong)
refused_by f NotZero r = (r.first, r.wrong)
refused_by f OutOfType r = (r.first, r.wrong)
refused_by f TooLong r = (r.first, r.wrong)
refused_by f Memory r = absurd (no_memory f r.first)

pub refused : (f : Frag) (plan : PlanNo) (i : TheInterface) (parts : List Frag) (fault : WireFault) → plan ≡ One → i ≡ intermon → parts ≡ [] → IsRefused plan i parts f fault → Refuses f fault
refused f plan i parts fault plan_is i_is parts_is r = refused_by f fault (carry (λ p j fs. IsRefused p j fs f fault) plan i parts plan_is i_is parts_is r)

pub says_none : (f : Frag) (m : MonitorMessage) (plan : PlanNo) (i : TheInterface) (parts : List Frag) (fault : WireFault) → plan ≡ One → i ≡ intermon → parts ≡ [] → IsRefused plan i parts f fault → Says f m → ⊥
says_none f m plan i parts fault plan_is i_is parts_is r s =
    not_wrong f m s (IsRefused.wrong (carry (λ p j fs. IsRefused p j fs f fault) plan i parts plan_is i_is parts_is r))

-- ---- one reason

is_why : (f : Frag) (fault : WireFault) → Refuses f fault → HasFault One intermon [] f fault
is_why f NotFirst r = r.0
is_why f FirstInside r = r.0
is_why f UnknownMessage r = r.0
is_why f NotZero r = r.0
is_why f OutOfType r = r.0
is_why f TooLong r = r.0
is_why f Memory r = absurd r

pub refused_for_one : RefusedForOne
refused_for_one f a b r s = one_fault One intermon [] f a b refl refl (is_why f a r) (is_why f b s)
