-- An interface is added, a dispatcher, a service; the number of cores is set.
use Rattle.std.proofs.Common.{◌≡◌, refl, sym, ◌∙◌, ap, subst, ℕ, inl, inr, nat_le, true, List, [], ◌∷◌, ◌++◌, length}
use Rattle.std.specs.Prelude.{bytes_eq}
use Rattle.std.specs.List.{list_any}
use Rattle.fl_interface.specs.Limits.{is_within_limits}
use Rattle.fl_compile.specs.declared.program.Program.{Program}
use Rattle.fl_hop.proofs.Lists.{push_keeps, push_cases}
use Rattle.fl_model.specs.Events.{Answer, done}
use Rattle.fl_model.specs.Calls.{Planned}
use Rattle.fl_model.specs.State.{State, answers}
use Rattle.fl_model.specs.Making.{has_interface, with_interface}
use Rattle.fl_model.specs.Sound.{Sound}
use Rattle.fl_world_refines.specs.Ends.{planned_of}
use Rattle.fl_world_refines.specs.View.{TheWorld}
use Rattle.fl_world_refines.specs.Making.{has_program, WithProgram}
use Rattle.fl_world_refines.specs.ShowsState.{ShowsState, Shows}
use Rattle.fl_world_refines.specs.Laws.{Agrees, InterfacesAgree}
use Rattle.fl_world_refines.proofs.MakingBase.{refuses, by_if, map_push, any_map, length_map}
use Rattle.fl_world_refines.proofs.MakingGrows.{cores_same}
use Rattle.fl_world_refines.proofs.MakingWider.{no_new, Widens, Wider, wider}

-- ---- an interface

abbrev with_program : Program → TheWorld → TheWorld
with_program p w = record w { programs = w.programs ++ p ∷ [] }

interface_widens : (p : Program) (i : Planned) (w : TheWorld) (s : State) → ShowsState w s → Widens w (with_program p w) s (with_interface i s)
interface_widens p i w s h = record {
  cores = cores_same no_new w.cores;
  queues = λ n q r. r;
  joined = refl;
  bindings = refl;
  interfaces = λ n j q. push_keeps s.interfaces (i ∷ []) n j q;
  services = λ iref x q. q;
  links = λ a b at q. q;
  links_back = λ a b at q. inl q;
  count = h.rings.count;
  rings = λ n r d p q. inl (p, q);
}

interface_shown : (p : Program) (i : Planned) (w : TheWorld) (s : State) → Sound s → ShowsState w s → planned_of p ≡ i → is_within_limits i.interface ≡ true
    → ShowsState (with_program p w) (with_interface i s)
interface_shown p i w s sound h same limits =
    let on : Wider (with_program p w) (with_interface i s) = wider w (with_program p w) s (with_interface i s) sound h (interface_widens p i w s h) in
    record {
      may_set_cores = h.may_set_cores;
      cores = record { count = h.cores.count; each = h.cores.each };
      dispatchers = h.dispatchers;
      programs = map_push planned_of w.programs p ∙ ap (λ is. is ++ planned_of p ∷ []) h.programs ∙ ap (λ j. s.interfaces ++ j ∷ []) same;
      limits = λ n j q. elim (push_cases s.interfaces i n j q) [
        | inl a ↦ h.limits n j a
        | inr a ↦ subst (λ (z : Planned). is_within_limits z.interface ≡ true) (sym a.1) limits
      ];
      names = h.names;
      rings = on.rings;
      bindings = on.bindings;
      ends = on.ends;
    }

same_interface : (name : List ℕ) (w : TheWorld) (s : State) → ShowsState w s → has_program name w ≡ has_interface name s
same_interface name w s h =
    any_map planned_of (λ (i : Planned). bytes_eq name i.interface.name) w.programs ∙ ap (list_any (λ (i : Planned). bytes_eq name i.interface.name)) h.programs

pub programs_count : (w : TheWorld) (s : State) → ShowsState w s → length w.programs ≡ length s.interfaces
programs_count w s h = sym (length_map planned_of w.programs) ∙ ap length h.programs

interface_made : (i : Planned) (w w2 : TheWorld) (s : State) (a : Answer) → Shows w s → WithProgram i w a w2 → Agrees (answers (with_interface i s) done) a w2
interface_made i w w2 s a h e = record {
  answer = sym e.answer;
  showing = subst (λ v. ShowsState v (with_interface i s)) (sym e.rest) (interface_shown e.program i w s h.sound h.showing e.planned e.limits);
}

pub interfaces_agree : InterfacesAgree
interfaces_agree i plan w w2 s a h e =
    by_if (has_program i.name w) (has_interface i.name s) _ _ _ _ a w2 (same_interface i.name w s h.showing) (refuses 92 w w2 s a h.showing)
    (λ q. by_if (nat_le 64 (length w.programs)) (nat_le 64 (length s.interfaces)) _ _ _ _ a w2 (ap (nat_le 64) (programs_count w s h.showing)) (refuses 94 w w2 s a h.showing)
    (λ r. interface_made (record { interface = i; plan = plan }) w w2 s a h)) e
