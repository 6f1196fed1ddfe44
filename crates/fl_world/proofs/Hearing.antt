-- Memory is wanting for a forward only where a message is heard that makes a monitor say something.
use Rattle.std.proofs.Common.{◌≡◌, ℕ, ◌<◌, ◌∙◌, subst, length, slice_get, slice_index_or, Some, Result, Ok, Err, IfErr, OnErr}
use Rattle.std.specs.declared.alloc.AllocError.{AllocError}
use Rattle.fl_base.specs.declared.fragment.Frag.{Frag}
use Rattle.fl_base.specs.declared.identity.LinkId.{LinkId}
use Rattle.fl_core.specs.declared.answer.LinkFront.{LinkFront}
use Rattle.fl_core.specs.declared.answer.LinkFront.TheVariants as ahead
use Rattle.fl_core.specs.declared.answer.MonitorAnswer.{MonitorAnswer}
use Rattle.fl_core.specs.declared.fault.LinkReceiveFault.{LinkReceiveFault}
use Rattle.fl_core.specs.declared.fault.LinkReceiveFault.TheVariants.{Memory}
use Rattle.fl_core.specs.Hearing.{Offers, HearsFragLast}
use Rattle.fl_core.specs.View.{TheCore}
use Rattle.fl_world_refines.specs.View.{TheWorld}
use Rattle.fl_world_refines.specs.Lending.{OverSide}
use Rattle.fl_world_refines.specs.Linking.{LinkNumbers, offers_in, LooksWith}
use Rattle.fl_world_events.proofs.Lifts.{stands}
use Rattle.fl_world.specs.Hearing.{WouldSay, SaysAhead, FindsMessage}

-- the core is lent, with what the world offers
pub would_say : (w base : TheWorld) → base ≡ w → (n : ℕ) → n < length base.cores → (k read : TheCore) → read ≡ slice_index_or base.cores n read → k ≡ read
    → (o : Offers) → o ≡ offers_in w → (l : LinkId) (f : Frag) (r : Result MonitorAnswer LinkReceiveFault) → IfErr r (HearsFragLast o l f k)
    → IfErr r (λ fault. WouldSay n l f fault w)
would_say w base same n below k read value view o lent l f (Ok a) h = tt
would_say w base same n below k read value view o lent l f (Err e) h =
    let here : slice_get w.cores n ≡ Some k = subst (λ (x : TheWorld). slice_get x.cores n ≡ Some k) same (stands base.cores n k read below value view) in
    let offered : HearsFragLast (offers_in w) l f k e = subst (λ (p : Offers). HearsFragLast p l f k e) lent h in
    (k, here, offered)

one_fault : (a b : LinkReceiveFault) → (let x : Result MonitorAnswer LinkReceiveFault = Err a in x) ≡ Err b → a ≡ b
one_fault a b e = cc

-- want of memory is all that is handed on
pub left_says : {A : Type 0} (w : TheWorld) (n : ℕ) (l : LinkId) (f : Frag) (o : Result MonitorAnswer LinkReceiveFault) → IfErr o (λ fault. WouldSay n l f fault w)
    → (fault : LinkReceiveFault) → o ≡ Err fault → (r : Result A AllocError) → OnErr r (fault ≡ Memory) → OnErr r (WouldSay n l f Memory w)
left_says w n l f (Ok a) h fault is r only = absurd (cc)
left_says w n l f (Err g) h fault is (Ok x) only = tt
left_says w n l f (Err g) h fault is (Err e) only = subst (λ (x : LinkReceiveFault). WouldSay n l f x w) (one_fault g fault is ∙ only) h

finds : (w w2 : TheWorld) (n : ℕ) (at : LinkNumbers) (a : LinkFront) → OverSide w n at.side (LooksWith at.link (Ok a)) w2 → SaysAhead a n at w2 → FindsMessage n at w
finds w w2 n at (ahead.Message f) looks says = record { frag = f; looked = w2; looks = looks; says = says }
finds w w2 n at ahead.Nothing looks says = absurd says
finds w w2 n at ahead.Acknowledged looks says = absurd says
finds w w2 n at (ahead.Onward frag onto circuit) looks says = absurd says
finds w w2 n at (ahead.Arrival frag name) looks says = absurd says

-- what a look found is followed
pub finds_message : {A : Type 0} (w w2 : TheWorld) (n : ℕ) (at : LinkNumbers) (o : Result LinkFront LinkReceiveFault) → OverSide w n at.side (LooksWith at.link o) w2
    → (a : LinkFront) → o ≡ Ok a → (r : Result A AllocError) → OnErr r (SaysAhead a n at w2) → OnErr r (FindsMessage n at w)
finds_message w w2 n at o h a is (Ok x) says = tt
finds_message w w2 n at o h a is (Err e) says =
    finds w w2 n at a (subst (λ (x : Result LinkFront LinkReceiveFault). OverSide w n at.side (LooksWith at.link x) w2) is h) says
