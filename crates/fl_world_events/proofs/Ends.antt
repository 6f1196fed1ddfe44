-- Events of one end at the parts of a world, from those of the core and its board.
use Rattle.std.proofs.Common.{◌≡◌, ◌%◌, refl, subst, ℕ, true, false, Option, Some, None, IsSome, Result, IfOk, inl, inr}
use Rattle.std.proofs.lemmas.Result.{IfOk-weaker}
use Rattle.std.specs.declared.alloc.AllocError.{AllocError}
use Rattle.fl_value_data.specs.Value.{TheCall}
use Rattle.fl_base.specs.declared.fragment.Frag.{Frag}
use Rattle.fl_link.specs.Cursor.{epoch_at}
use Rattle.fl_ring.specs.Duo.{TheDuo, side_of, got}
use Rattle.fl_ring.specs.declared.one_duo.WhichSide.{WhichSide}
use Rattle.fl_ring.specs.declared.duo_side.DuoSide.{DuoSide}
use Rattle.fl_endpoint.specs.declared.fault.EndFault.{EndFault}
use Rattle.fl_endpoint.specs.Accounts.{Sound}
use Rattle.fl_endpoint.specs.View.{TheEnd, is_circuit}
use Rattle.fl_endpoint.specs.Events.{Calls, SetsRule, ShowsNext}
use Rattle.fl_core.specs.BoardView.{TheBoard}
use Rattle.fl_core.specs.BoardEvents.{Holds}
use Rattle.fl_core.specs.View.{TheCore}
use Rattle.fl_model.specs.Events.{Answer, nothing, refused}
use Rattle.fl_world_refines.specs.declared.binding.Binding.{Binding}
use Rattle.fl_world_refines.specs.View.{which_at}
use Rattle.fl_world_refines.specs.Sending.{IsCalled, IsShown, PreviewsWith}
use Rattle.fl_world_refines.specs.Taking.{IsRuled, TellsNothing}
use Rattle.fl_model.specs.declared.answer.BriefAnswer.{BriefAnswer}
use Rattle.fl_model.specs.Views.{brief_of}
use Rattle.fl_world_events.specs.Parts.{KeptOrNone, CallsWith, RulesWith}

-- the end that a binding keeps makes a call
pub called_kept : (c : TheCall) (b : Binding) (s t : TheEnd) → b.unmade ≡ Some s → (o : Result (Unit {0}) EndFault) → Calls s c o t
    → (r : Result BriefAnswer AllocError) → IfOk r (λ a. IsCalled o (brief_of a))
    → IfOk r (λ a. KeptOrNone (CallsWith c (brief_of a)) (brief_of a) b (record b { unmade = Some t }))
called_kept c b s t is o calls r h =
    IfOk-weaker r (λ a. IsCalled o (brief_of a)) (λ a. KeptOrNone (CallsWith c (brief_of a)) (brief_of a) b (record b { unmade = Some t }))
    (λ a called. inl (record { before = s; before_is = is; after = t; event = (o, calls, called); rest = refl })) h

-- it gets a rule
pub ruled_kept : (msg reply : ℕ) (b : Binding) (s t : TheEnd) → b.unmade ≡ Some s → (o : Result (Unit {0}) EndFault) → SetsRule s msg reply o t
    → (a : Answer) → IsRuled o a → KeptOrNone (RulesWith msg reply a) a b (record b { unmade = Some t })
ruled_kept msg reply b s t is o sets a ruled = inl (record { before = s; before_is = is; after = t; event = (o, sets, ruled); rest = refl })

-- ---- an end on a board that is lent

pub sound_holds : (k : TheCore) (b : TheBoard) → b ≡ k.board → (e : ℕ) → Holds b e (λ s. Sound s.end) → Holds k.board e (λ s. Sound s.end)
sound_holds k b same e h = subst (λ (x : TheBoard). Holds x e (λ s. Sound s.end)) same h

bound_from : (o : Option ℕ) → is_circuit o ≡ true → IsSome o
bound_from None h = absurd (cc)
bound_from (Some circuit) h = refl

unbound_from : (o : Option ℕ) → is_circuit o ≡ false → o ≡ None
unbound_from None h = refl
unbound_from (Some circuit) h = absurd (cc)

pub tells_bound : (k : TheCore) (b : TheBoard) → b ≡ k.board → (e : ℕ) (t : TheEnd) → Holds b e (λ s. t ≡ s.end) → is_circuit t.circuit ≡ true
    → Holds k.board e (λ s. TellsNothing s.end nothing)
tells_bound k b same e t h is = subst (λ (x : TheBoard). Holds x e (λ s. TellsNothing s.end nothing)) same
    (h.0, h.1, inr (subst (λ (x : TheEnd). IsSome x.circuit) h.2 (bound_from t.circuit is), refl))

pub tells_unbound : (k : TheCore) (b : TheBoard) → b ≡ k.board → (e : ℕ) (t : TheEnd) → Holds b e (λ s. t ≡ s.end) → is_circuit t.circuit ≡ false
    → Holds k.board e (λ s. TellsNothing s.end (refused 43))
tells_unbound k b same e t h is = subst (λ (x : TheBoard). Holds x e (λ s. TellsNothing s.end (refused 43))) same
    (h.0, h.1, inl (subst (λ (x : TheEnd). x.circuit ≡ None) h.2 (unbound_from t.circuit is), refl))

-- over a side that is lent
pub side_previews : (k : TheCore) (place : ℕ) (p : DuoSide) (r : TheDuo) (m : ℕ) → p.duo.now ≡ r → p.which ≡ which_at m → (o : Result (Option Frag) EndFault)
    → Holds k.board place (λ s. ShowsNext (epoch_at p.duo.now.size (side_of p.which p.duo.now).sent) (got (side_of p.which p.duo.now) % 65536) s.end o)
    → (a : Answer) → IsShown o a
    → PreviewsWith (epoch_at r.size (side_of (which_at m) r).sent) (got (side_of (which_at m) r) % 65536) k place a
side_previews k place p r m ring which o holds a is = (
  o,
  subst (λ (x : TheDuo). Holds k.board place (λ s. ShowsNext (epoch_at x.size (side_of (which_at m) x).sent) (got (side_of (which_at m) x) % 65536) s.end o)) ring
      (subst (λ (w : WhichSide). Holds k.board place (λ s. ShowsNext (epoch_at p.duo.now.size (side_of w p.duo.now).sent) (got (side_of w p.duo.now) % 65536) s.end o)) which holds),
  is,
)
