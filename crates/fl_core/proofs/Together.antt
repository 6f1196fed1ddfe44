-- A board's seats and the places of their ends: what stands at one, and what a change of one makes of the seats.
use Rattle.std.proofs.Common.{◌≡◌, refl, sym, ap, ◌∙◌, subst, ℕ, zero, suc, ◌<◌, List, [], ◌∷◌, ◌++◌, length, slice_get, slice_set, slice_index_or, Option, None, Some, arith}
use Rattle.std.specs.Prelude.{IsSomeAnd}
use Rattle.std.proofs.lemmas.Option.{slice_get_read}
use Rattle.fl_compile.specs.declared.program.Program.{Program}
use Rattle.fl_compile.specs.Programs.{program_of}
use Rattle.fl_base.specs.declared.fragment.Frag.{Frag}
use Rattle.fl_machine.specs.Reassembling.{TheReassembly}
use Rattle.fl_endpoint.specs.View.{TheEnd, with_parts}
use Rattle.fl_endpoint.specs.Accounts.{Sound}
use Rattle.fl_endpoint.specs.Lent.{IsOf, IsPlaceOf}
use Rattle.fl_core.specs.BoardView.{TheDispatcher, TheEndAtChannel, TheBoard}
use Rattle.fl_core.specs.BoardInside.{seat_with, seats_of, Belongs, GoTogether, board_of}

-- a seat, with the place of its end
pub record Placed (seats : List TheEndAtChannel) (calls : List TheReassembly) (e : ℕ) (s : TheEndAtChannel) : Type 0 where
  pub call : TheReassembly
  pub call_is : slice_get calls e ≡ Some call
  pub of : Belongs call s.end
  pub there : slice_get (seats_of seats calls) e ≡ Some (seat_with s call.parts)

placed_first : (x s : TheEndAtChannel) (r : TheReassembly) (seats : List TheEndAtChannel) (calls : List TheReassembly) → Belongs r x.end → x ≡ s → Placed (x ∷ seats) (r ∷ calls) zero s
placed_first x s r seats calls of same =
    record { call = r; call_is = refl; of = subst (λ (y : TheEndAtChannel). Belongs r y.end) same of; there = ap (λ (y : TheEndAtChannel). Some (seat_with y r.parts)) same }

placed_later : (x s : TheEndAtChannel) (r : TheReassembly) (seats : List TheEndAtChannel) (calls : List TheReassembly) (e : ℕ) → Placed seats calls e s → Placed (x ∷ seats) (r ∷ calls) (suc e) s
placed_later x s r seats calls e p = record { call = p.call; call_is = p.call_is; of = p.of; there = p.there }

nothing_stands : {A : Type 0} (s : TheEndAtChannel) → ◌≡◌ {A = Option TheEndAtChannel} None (Some s) → A
nothing_stands s e = absurd (cc)

same_seat : (x s : TheEndAtChannel) → ◌≡◌ {A = Option TheEndAtChannel} (Some x) (Some s) → x ≡ s
same_seat x s e = cc

pub placed : (seats : List TheEndAtChannel) (calls : List TheReassembly) → GoTogether seats calls → (e : ℕ) (s : TheEndAtChannel) → slice_get seats e ≡ Some s → Placed seats calls e s
placed [] calls h e s at = nothing_stands s at
placed (x ∷ seats) [] h e s at = absurd h
placed (x ∷ seats) (r ∷ calls) h zero s at = placed_first x s r seats calls h.0 (same_seat x s at)
placed (x ∷ seats) (r ∷ calls) h (suc e) s at = placed_later x s r seats calls e (placed seats calls h.1 e s at)

-- there are as many of each
pub as_many : (seats : List TheEndAtChannel) (calls : List TheReassembly) → GoTogether seats calls → length (seats_of seats calls) ≡ length seats
as_many [] [] h = refl
as_many [] (r ∷ calls) h = absurd h
as_many (x ∷ seats) [] h = absurd h
as_many (x ∷ seats) (r ∷ calls) h = ap suc (as_many seats calls h.1)

same_some : {X : Type 0} (x y : X) → Some x ≡ Some y → x ≡ y
same_some x y e = cc

none_stands : {A X : Type 0} (x : X) → ◌≡◌ {A = Option X} None (Some x) → A
none_stands x e = absurd (cc)

-- ---- a seat changes

pub set_seat : (seats : List TheEndAtChannel) (calls : List TheReassembly) (e : ℕ) (t : TheEndAtChannel) (r : TheReassembly) → slice_get calls e ≡ Some r
    → seats_of (slice_set seats e t) calls ≡ slice_set (seats_of seats calls) e (seat_with t r.parts)
set_seat [] calls e t r at = refl
set_seat (x ∷ seats) [] e t r at = none_stands r at
set_seat (x ∷ seats) (q ∷ calls) zero t r at = let same : q ≡ r = same_some q r at in ap (λ (y : TheReassembly). seat_with t y.parts ∷ seats_of seats calls) same
set_seat (x ∷ seats) (q ∷ calls) (suc e) t r at = ap (λ ys. seat_with x q.parts ∷ ys) (set_seat seats calls e t r at)

pub set_seat_together : (seats : List TheEndAtChannel) (calls : List TheReassembly) → GoTogether seats calls → (e : ℕ) (t : TheEndAtChannel) (r : TheReassembly) → slice_get calls e ≡ Some r → Belongs r t.end
    → GoTogether (slice_set seats e t) calls
set_seat_together [] [] h e t r at of = tt
set_seat_together [] (q ∷ calls) h e t r at of = absurd h
set_seat_together (x ∷ seats) [] h e t r at of = absurd h
set_seat_together (x ∷ seats) (q ∷ calls) h zero t r at of = let same : q ≡ r = same_some q r at in (subst (λ (y : TheReassembly). Belongs y t.end) (sym same) of, h.1)
set_seat_together (x ∷ seats) (q ∷ calls) h (suc e) t r at of = (h.0, set_seat_together seats calls h.1 e t r at of)

-- ---- a seat and its place change

pub set_both : (seats : List TheEndAtChannel) (calls : List TheReassembly) (e : ℕ) (t : TheEndAtChannel) (was r : TheReassembly) → slice_get calls e ≡ Some was
    → seats_of (slice_set seats e t) (slice_set calls e r) ≡ slice_set (seats_of seats calls) e (seat_with t r.parts)
set_both [] calls e t was r at = refl
set_both (x ∷ seats) [] e t was r at = absurd (cc)
set_both (x ∷ seats) (q ∷ calls) zero t was r at = refl
set_both (x ∷ seats) (q ∷ calls) (suc e) t was r at = ap (λ ys. seat_with x q.parts ∷ ys) (set_both seats calls e t was r at)

pub set_both_together : (seats : List TheEndAtChannel) (calls : List TheReassembly) → GoTogether seats calls → (e : ℕ) (t : TheEndAtChannel) (r : TheReassembly) → Belongs r t.end
    → GoTogether (slice_set seats e t) (slice_set calls e r)
set_both_together [] [] h e t r of = tt
set_both_together [] (q ∷ calls) h e t r of = absurd h
set_both_together (x ∷ seats) [] h e t r of = absurd h
set_both_together (x ∷ seats) (q ∷ calls) h zero t r of = (of, h.1)
set_both_together (x ∷ seats) (q ∷ calls) h (suc e) t r of = (h.0, set_both_together seats calls h.1 e t r of)

-- ---- a seat and its place more

pub one_more : (seats : List TheEndAtChannel) (calls : List TheReassembly) → GoTogether seats calls → (t : TheEndAtChannel) (r : TheReassembly)
    → seats_of (seats ++ t ∷ []) (calls ++ r ∷ []) ≡ seats_of seats calls ++ seat_with t r.parts ∷ []
one_more [] [] h t r = refl
one_more [] (q ∷ calls) h t r = absurd h
one_more (x ∷ seats) [] h t r = absurd h
one_more (x ∷ seats) (q ∷ calls) h t r = ap (λ ys. seat_with x q.parts ∷ ys) (one_more seats calls h.1 t r)

pub one_more_together : (seats : List TheEndAtChannel) (calls : List TheReassembly) → GoTogether seats calls → (t : TheEndAtChannel) (r : TheReassembly) → Belongs r t.end
    → GoTogether (seats ++ t ∷ []) (calls ++ r ∷ [])
one_more_together [] [] h t r of = (of, tt)
one_more_together [] (q ∷ calls) h t r of = absurd h
one_more_together (x ∷ seats) [] h t r of = absurd h
one_more_together (x ∷ seats) (q ∷ calls) h t r of = (h.0, one_more_together seats calls h.1 t r of)

-- all calls but the last, which is that of the last seat
pub record LastPlace (seats : List TheEndAtChannel) (last : TheEndAtChannel) (calls : List TheReassembly) : Type 0 where
  pub rest : List TheReassembly
  pub call : TheReassembly
  pub calls_are : calls ≡ rest ++ call ∷ []
  pub together : GoTogether seats rest
  pub seats_are : seats_of (seats ++ last ∷ []) calls ≡ seats_of seats rest ++ seat_with last call.parts ∷ []

pub last_place : (seats : List TheEndAtChannel) (last : TheEndAtChannel) (calls : List TheReassembly) → GoTogether (seats ++ last ∷ []) calls → LastPlace seats last calls
last_place [] last [] h = absurd h
last_place [] last (q ∷ []) h = record { rest = []; call = q; calls_are = refl; together = tt; seats_are = refl }
last_place [] last (q ∷ (r ∷ calls)) h = absurd h.1
last_place (x ∷ seats) last [] h = absurd h
last_place (x ∷ seats) last (q ∷ calls) h =
    let p = last_place seats last calls h.1 in
    record {
      rest = q ∷ p.rest;
      call = p.call;
      calls_are = ap (λ ys. q ∷ ys) p.calls_are;
      together = (h.0, p.together);
      seats_are = ap (λ ys. seat_with x q.parts ∷ ys) p.seats_are;
    }

-- ---- a board by what it stores

-- what there is on the board is among the seats that it stores
pub below_seats : (k : TheBoard) (dispatchers : List TheDispatcher) (seats : List TheEndAtChannel) (calls : List TheReassembly) → board_of dispatchers seats calls ≡ k → GoTogether seats calls
    → (e : ℕ) → e < length k.seats → e < length seats
below_seats k dispatchers seats calls same together e below =
    let many : length k.seats ≡ length seats = ap (λ (x : TheBoard). length x.seats) (sym same) ∙ as_many seats calls together in
    omega (arith, below, many)

-- the seat that was read at a place
pub read_seat : (seats : List TheEndAtChannel) (calls : List TheReassembly) → GoTogether seats calls → (e : ℕ) → e < length (seats_of seats calls) → (s read : TheEndAtChannel) → read ≡ slice_index_or seats e read → s ≡ read
    → Placed seats calls e s
read_seat seats calls together e below s read value view =
    let within : e < length seats = omega (arith, below, as_many seats calls together) in
    placed seats calls together e s (slice_get_read seats (length seats) e read refl within value ∙ ap Some (sym view))

-- the seat, with another end by itself
abbrev pub seat_of : TheEndAtChannel → TheEnd → TheEndAtChannel
seat_of s t = record { end = t; dispatcher = s.dispatcher; channel = s.channel; kind = s.kind }

-- an end that changed, of the same program, is of its place where it is sound with it
pub still_of : (s t : TheEnd) (r : TheReassembly) → Belongs r s → t.program ≡ s.program → Sound (with_parts t r.parts) → Belongs r t
still_of s t r of same sound = record { program = of.program ∙ ap (λ (p : Program). program_of p) (sym same); sound = sound }

-- a place that is added for an end belongs to it
pub new_belongs : (s : TheEnd) (r : TheReassembly) → program_of r.program ≡ program_of s.program → r.parts ≡ [] → s.parts ≡ [] → Sound s → Belongs r s
new_belongs s r program none alone sound = record { program = program; sound = subst (λ (xs : List Frag). Sound (with_parts s xs)) (sym (none ∙ sym alone)) sound }

-- ---- what is lent to an end

-- what stands at a place is of the end
pub as_place : (s : TheEnd) (calls : List TheReassembly) (e : ℕ) (r : TheReassembly) → slice_get calls e ≡ Some r → Belongs r s → IsPlaceOf s calls e
as_place s calls e r there of = subst (λ (o : Option TheReassembly). IsSomeAnd o (λ x. IsOf s x)) (sym there) (record { program = of.program; are_bare = of.sound.are_bare })

pub standing : (s : TheEnd) (o : Option TheReassembly) → IsSomeAnd o (λ x. IsOf s x) → (r : TheReassembly) × (o ≡ Some r)
standing s None h = absurd h
standing s (Some r) h = (r, refl)
