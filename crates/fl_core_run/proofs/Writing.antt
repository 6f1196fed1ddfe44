-- A write of an end is one over where it puts.
use Rattle.std.proofs.Common.{◌≡◌, refl, sym, ap, ◌∙◌, subst, ℕ, nat_lt, List, length, Option, Some, None, true, get_or, slice_set, Result}
use Rattle.std.proofs.lemmas.Bool.{ltb-true}
use Rattle.std.proofs.lemmas.Option.{slice_get_read}
use Rattle.fl_base.specs.declared.identity.EndId.{EndId}
use Rattle.fl_base.specs.Given.{given}
use Rattle.fl_link.specs.Queue.{TheQueue, QueuePuts}
use Rattle.fl_endpoint.specs.declared.answer.WriteAnswer.{WriteAnswer}
use Rattle.fl_endpoint.specs.declared.fault.EndFault.{EndFault}
use Rattle.fl_core.specs.declared.wiring.Outlet.{Outlet}
use Rattle.fl_core.specs.declared.wiring.Outlet.TheVariants as outlet
use Rattle.fl_core.specs.View.{TheCore, place_of}
use Rattle.fl_core.specs.Ends.{at_side, WritesAt}
use Rattle.fl_core_run.specs.declared.lent.LentPutEnd.{LentPutEnd}
use Rattle.fl_core_run.specs.Run.{SideRelations, TheRun, lends_out, lent_post_at, lent_post}
use Rattle.fl_core_run.specs.LogEntries.{WritesOver, IsSound, IsSoundAt}
use Rattle.fl_core_run.specs.Steps.{WritesFrom}
use Rattle.fl_core_run.specs.Inside.{OfPlace, OverSide}
use Rattle.fl_core_run.proofs.Sides.{on_ring}

module _ {S : Type 0} (w : SideRelations S) (e n : ℕ) (out : Outlet) (answer : Result WriteAnswer EndFault) (s : TheRun S) (core : TheCore) where
  pub over_queue : (before after : TheQueue) → out ≡ outlet.Queue n → lends_out s out ≡ true → before ≡ get_or s.queues n before
      → WritesAt QueuePuts e (at_side s.core before) answer (at_side core after)
      → WritesOver w e out answer s (record s { core = core; queues = slice_set s.queues n after })
  over_queue before after is lent read event =
      let within : nat_lt n (length s.queues) ≡ true = ap (lends_out s) (sym is) ∙ lent in
      subst (λ (o : Outlet). WritesOver w e o answer s (record s { core = core; queues = slice_set s.queues n after })) (sym is)
      (record {
        before = before;
        before_is = slice_get_read s.queues _ n before refl (ltb-true _ _ within) read;
        after = after;
        event = event;
        rest = refl;
      })

  pub over_ring : (ts : List S) → out ≡ outlet.Side n → OverSide n s.rings (λ p q. WritesAt w.puts e (at_side s.core p) answer (at_side core q)) ts
      → WritesOver w e out answer s (record s { core = core; rings = ts })
  over_ring ts is event =
      subst (λ (o : Outlet). WritesOver w e o answer s (record s { core = core; rings = ts })) (sym is)
      (on_ring s n ts (λ k p k2 q. WritesAt w.puts e (at_side k p) answer (at_side k2 q)) core event)

-- ---- by the end's place

pub no_end : {S : Type 0} (w : SideRelations S) (s : TheRun S) (place : Option ℕ) → place ≡ None → OfPlace place s (λ name. WritesFrom w name (lent_post s name) s s)
no_end w s place is = λ name at.
    subst (λ (o : Option LentPutEnd). WritesFrom w name o s s) (sym (ap (λ (o : Option ℕ). given o None λ e. lent_post_at s e) (at ∙ is))) refl

module _ {S : Type 0} (w : SideRelations S) (s : TheRun S) (place : Option ℕ) (e : ℕ) (is : place ≡ Some e) where
  post_is : (name : EndId) (post : Option LentPutEnd) → place_of s.core name ≡ place → post ≡ lent_post_at s e → post ≡ lent_post s name
  post_is name post at lent = lent ∙ sym (ap (λ (o : Option ℕ). given o None λ n. lent_post_at s n) (at ∙ is))

  pub none_lent : None ≡ lent_post_at s e → OfPlace place s (λ name. WritesFrom w name (lent_post s name) s s)
  none_lent lent = λ name at. subst (λ (o : Option LentPutEnd). WritesFrom w name o s s) (post_is name None at lent) refl

  pub wrote_there : (post : LentPutEnd) (answer : Result WriteAnswer EndFault) (t : TheRun S) → Some post ≡ lent_post_at s e → WritesOver w e post.outlet answer s t
      → IsSound s.core → w.whole s.rings → OfPlace (Some e) s (λ name. IsSoundAt s name) → OfPlace place s (λ name. WritesFrom w name (lent_post s name) s t)
  wrote_there post answer t lent wrote sound whole sound_at = λ name at.
      subst (λ (o : Option LentPutEnd). WritesFrom w name o s t) (post_is name (Some post) at lent)
      (answer, (t, (e, at ∙ is, wrote), refl, sound, sound_at name (at ∙ is), whole))
