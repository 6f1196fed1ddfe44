-- The fragments in an outbox are those of one list of messages.
use Rattle.std.proofs.Common.{◌≡◌, ◌<◌, false, List, [], ◌∷◌, ◌++◌, length, length-append, refl, sym, ◌∙◌, ap, subst, arith}
use Rattle.std.specs.Prelude.{Option, IfSome, slice_get}
use Rattle.fl_base.specs.declared.fragment.Frag.{Frag}
use Rattle.fl_base.specs.Control.{bare, is_ack_only}
use Rattle.fl_monitor.specs.Outboxes.{IsSomeFrag, IsOutbox, OneListOfMessages, PutIsOneMore, SentIsOneLess}
use Rattle.fl_monitor.proofs.Single.{frag_for, frags_are, bare_frag, says_what_is_written, says_no_other, says_alone}

pub one_list : OneListOfMessages
one_list [] [] [] a b = refl
one_list [] [] (n ∷ ns) a b = absurd b
one_list [] (m ∷ ms) ns a b = absurd a
one_list (f ∷ frags) [] ns a b = absurd a
one_list (f ∷ frags) (m ∷ ms) [] a b = absurd b
one_list (f ∷ frags) (m ∷ ms) (n ∷ ns) a b =
    let same : m ≡ n = says_no_other f m n (says_what_is_written f m a.0.widths a.0.written) (says_what_is_written f n b.0.widths b.0.written) in
    let rest : ms ≡ ns = one_list frags ms ns a.1 b.1 in
    λ i. same i ∷ rest i

pub put_is_one_more : PutIsOneMore
put_is_one_more [] [] f m a b = (b, tt)
put_is_one_more [] (n ∷ ns) f m a b = absurd a
put_is_one_more (g ∷ frags) [] f m a b = absurd a
put_is_one_more (g ∷ frags) (n ∷ ns) f m a b = (a.0, put_is_one_more frags ns f m a.1 b)

pub sent_is_one_less : SentIsOneLess
sent_is_one_less f frags [] a = absurd a
sent_is_one_less f frags (m ∷ ms) a = (m, ms, refl, a.0, a.1)

-- ---- an outbox stays one

pub with_one_more : (frags : List Frag) (f : Frag) → IsOutbox frags → length frags < 64 → IsSomeFrag f → IsOutbox (frags ++ f ∷ [])
with_one_more frags f s room some = record {
  few = omega (arith, room, length-append frags (f ∷ []));
  messages = s.messages ++ some.0 ∷ [];
  are = put_is_one_more frags s.messages f some.0 s.are some.1;
}

-- ---- a fragment that waits

pub some_data : (f : Frag) → IsSomeFrag f → is_ack_only f ≡ false
some_data f some = (says_alone f some.0 (says_what_is_written f some.0 some.1.widths some.1.written)).no_ack

pub some_bare : (f : Frag) → IsSomeFrag f → bare f ≡ f
some_bare f some =
    let one : f ∷ [] ≡ frag_for some.0 ∷ [] = some.1.written ∙ frags_are some.0 some.1.widths in
    let is : f ≡ frag_for some.0 = cc in
    ap bare is ∙ bare_frag some.0 ∙ sym is

-- what is so of each message's fragment is so of the first
pub first_is : (P : Frag → Type 0) → ((f : Frag) → IsSomeFrag f → P f) → (frags : List Frag) (r : Option Frag) → IsOutbox frags → r ≡ slice_get frags 0 → IfSome r P
first_is P each [] r s e = subst (λ (x : Option Frag). IfSome x P) (sym e) tt
first_is P each (f ∷ frags) r s e =
    let less = sent_is_one_less f frags s.messages s.are in
    subst (λ (x : Option Frag). IfSome x P) (sym e) (each f (less.0, less.3))
