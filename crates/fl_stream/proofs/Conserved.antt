-- A side of a stream over steps in a row: nothing is lost, and order stays.
use Rattle.std.proofs.Common.{◌≡◌, refl, sym, ap, ◌∙◌, append_assoc, List, [], ◌∷◌, ◌++◌}
use Rattle.std.proofs.lemmas.List.{append-nil}
use Rattle.fl_base.specs.declared.fragment.Frag.{Frag}
use Rattle.fl_link.specs.Looks.{Look, placed, no_room, spent, saw, saw_ack, found, found_ack, missed, told, kept, Looks, puts_of, takes_of}
use Rattle.fl_link.proofs.Conserved.{over_looks, puts_of-join, takes_of-join}
use Rattle.fl_stream.specs.Sides.{TheSender, TheReceiver}
use Rattle.fl_stream.specs.Steps.{StreamPuts, StreamTakes}
use Rattle.fl_stream.specs.Laws.{SenderConserves, ReceiverConserves}

-- over two stretches, each of which adds to a list
adds_both : {A : Type 0} (x y z p q : List A) → y ≡ x ++ p → z ≡ y ++ q → z ≡ x ++ (p ++ q)
adds_both x y z p q a b = b ∙ ap (λ (l : List _). l ++ q) a ∙ append_assoc x p q

sender_none : (s : TheSender) → SenderConserves s [] s
sender_none s = record { stream = refl; size = refl; sent = sym (append-nil s.sent) }

sender_one : (s t : TheSender) (look : Look) → StreamPuts s look t → SenderConserves s (look ∷ []) t
sender_one s t (placed f) h = record { stream = h.stream; size = h.size; sent = h.sent }
sender_one s t no_room h = record { stream = h.stream; size = h.size; sent = h.sent ∙ sym (append-nil s.sent) }
sender_one s t spent h = absurd h
sender_one s t (saw f) h = absurd h
sender_one s t saw_ack h = absurd h
sender_one s t (found f) h = absurd h
sender_one s t found_ack h = absurd h
sender_one s t missed h = absurd h
sender_one s t told h = absurd h
sender_one s t kept h = absurd h

sender_join : (s t u : TheSender) (xs ys : List Look) → SenderConserves s xs t → SenderConserves t ys u → SenderConserves s (xs ++ ys) u
sender_join s t u xs ys a b = record {
  stream = b.stream ∙ a.stream;
  size = b.size ∙ a.size;
  sent = adds_both s.sent t.sent u.sent (puts_of xs) (puts_of ys) a.sent b.sent ∙ ap (λ (l : List Frag). s.sent ++ l) (sym (puts_of-join xs ys));
}

pub sender_conserves : (s t : TheSender) (looks : List Look) → Looks StreamPuts s looks t → SenderConserves s looks t
sender_conserves = over_looks StreamPuts SenderConserves sender_none sender_one sender_join

receiver_none : (s : TheReceiver) → ReceiverConserves s [] s
receiver_none s = record { stream = refl; size = refl; got = sym (append-nil s.got) }

receiver_one : (s t : TheReceiver) (look : Look) → StreamTakes s look t → ReceiverConserves s (look ∷ []) t
receiver_one s t (placed f) h = absurd h
receiver_one s t no_room h = absurd h
receiver_one s t spent h = absurd h
receiver_one s t (saw f) (h, _, _) = record { stream = h.stream; size = h.size; got = h.got ∙ sym (append-nil s.got) }
receiver_one s t saw_ack h = absurd h
receiver_one s t (found f) h = record { stream = h.stream; size = h.size; got = h.got }
receiver_one s t found_ack h = absurd h
receiver_one s t missed (h, _) = record { stream = h.stream; size = h.size; got = h.got ∙ sym (append-nil s.got) }
receiver_one s t told h = absurd h
receiver_one s t kept e = record {
  stream = ap (λ (r : TheReceiver). r.stream) e;
  size = ap (λ (r : TheReceiver). r.size) e;
  got = ap (λ (r : TheReceiver). r.got) e ∙ sym (append-nil s.got);
}

receiver_join : (s t u : TheReceiver) (xs ys : List Look) → ReceiverConserves s xs t → ReceiverConserves t ys u → ReceiverConserves s (xs ++ ys) u
receiver_join s t u xs ys a b = record {
  stream = b.stream ∙ a.stream;
  size = b.size ∙ a.size;
  got = adds_both s.got t.got u.got (takes_of xs) (takes_of ys) a.got b.got ∙ ap (λ (l : List Frag). s.got ++ l) (sym (takes_of-join xs ys));
}

pub receiver_conserves : (s t : TheReceiver) (looks : List Look) → Looks StreamTakes s looks t → ReceiverConserves s looks t
receiver_conserves = over_looks StreamTakes ReceiverConserves receiver_none receiver_one receiver_join
