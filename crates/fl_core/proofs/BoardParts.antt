-- The parts of a turn, by what the end answered.
use Rattle.std.proofs.Common.{◌≡◌, ◌⊎◌, inl, inr, refl, sym, subst, ℕ, IsSome, Ok, Err}
use Rattle.fl_lists.specs.declared.place.Place.TheVariants as place
use Rattle.fl_value_data.specs.declared.value.Call.{Call}
use Rattle.fl_link.specs.Looks.{Look}
use Rattle.fl_endpoint.specs.declared.answer.ReceiveAnswer.{ReceiveAnswer}
use Rattle.fl_endpoint.specs.declared.answer.ReceiveAnswer.TheVariants as receive
use Rattle.fl_endpoint.specs.View.{TheEnd}
use Rattle.fl_endpoint.specs.Events.{IsUnbound}
use Rattle.fl_core.specs.declared.kind.ChannelKind.{ChannelKind}
use Rattle.fl_core.specs.declared.kind.ChannelKind.TheVariants.{Queue, Ring}
use Rattle.fl_core.specs.declared.board_fault.BoardFault.TheVariants.{NotBound}
use Rattle.fl_core.specs.declared.turn_answer.AckAnswer.{AckAnswer}
use Rattle.fl_core.specs.declared.turn_answer.AckAnswer.TheVariants as ack
use Rattle.fl_core.specs.BoardInside.{Tells, Settles}
use Rattle.fl_core.specs.BoardTurns.{GoesOn, put_off, ListsAndSide}
use Rattle.fl_core.specs.BoardEvents.{Acks}

-- ---- where a channel goes

module _ {T : Type 0} (takes : T → Look → T → Type 0) (kind : ChannelKind) (c : ℕ) (a b : ListsAndSide T) where
  settles_as : (x y : ReceiveAnswer) → x ≡ y → Settles takes kind c a y b → Settles takes kind c a x b
  settles_as x y e h = subst (λ (z : ReceiveAnswer). Settles takes kind c a z b) (sym e) h

  pub settles_held : (x : ReceiveAnswer) → x ≡ receive.HeldBack → (b.lists ≡ put_off a.lists place.Pending c place.Pending) × (b.side ≡ a.side)
      → Settles takes kind c a x b
  settles_held x e h = settles_as x receive.HeldBack e h

  pub settles_on : (x : ReceiveAnswer) → ((call : Call) × (x ≡ receive.Handle call)) ⊎ (x ≡ receive.Part) ⊎ (x ≡ receive.Quiet) ⊎ (x ≡ receive.Empty)
      → GoesOn takes kind c a b → Settles takes kind c a x b
  settles_on x (inl (call, e)) h = settles_as x (receive.Handle call) e h
  settles_on x (inr (inl e)) h = settles_as x receive.Part e h
  settles_on x (inr (inr (inl e))) h = settles_as x receive.Quiet e h
  settles_on x (inr (inr (inr e))) h = settles_as x receive.Empty e h

-- ---- acknowledgements

module _ {T : Type 0} (takes : T → Look → T → Type 0) (s : TheEnd) (p q : T) where
  pub acks_unbound : (kind : ChannelKind) → IsUnbound s → Acks takes kind s p (Err NotBound) p
  acks_unbound Queue h = (h, refl)
  acks_unbound Ring h = (h, refl)

  pub acks_queue : (kind : ChannelKind) → kind ≡ Queue → IsSome s.circuit → Acks takes kind s p (Ok ack.Nothing) p
  acks_queue kind e bound = subst (λ (k : ChannelKind). Acks takes k s p (Ok ack.Nothing) p) (sym e) (bound, refl)

  acks_told : (a : AckAnswer) → IsSome s.circuit → Tells takes p a q → Acks takes Ring s p (Ok a) q
  acks_told ack.Done bound h = (bound, h)
  acks_told ack.Nothing bound h = (bound, h)
  acks_told ack.Full bound h = (bound, h)

  pub acks_ring : (kind : ChannelKind) (a : AckAnswer) → kind ≡ Ring → IsSome s.circuit → Tells takes p a q → Acks takes kind s p (Ok a) q
  acks_ring kind a e bound h = subst (λ (k : ChannelKind). Acks takes k s p (Ok a) q) (sym e) (acks_told a bound h)
