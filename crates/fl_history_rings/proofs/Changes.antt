-- What a core knows of its sides after a step of its own, by what it knew before.
use Rattle.std.proofs.Common.{Option, Some, ℕ, ◌≡◌, ◌≢◌, ◌==◌, eq-eqb, ne_eqb, List, [], ◌∷◌, ◌++◌, length, ap, ◌∙◌, sym, refl}
use Rattle.fl_base.specs.declared.fragment.Frag.{Frag}
use Rattle.fl_base.specs.Control.{epoch_of, told_of}
use Rattle.fl_link.specs.Cursor.{epoch_at}
use Rattle.fl_ring.specs.Counts.{count_from}
use Rattle.fl_ring.specs.declared.shared.board.WriterView.{WriterView}
use Rattle.fl_ring.specs.declared.shared.duo_board.SideView.{SideView}
use Rattle.fl_ring.specs.SharedWay.{frag_from, loaded_frag}
use Rattle.fl_ring.specs.SharedDuo.{side_put, side_control, side_loaded, side_peeked, side_got, known_by}
use Rattle.fl_history_rings.specs.declared.board.Action.{Action}
use Rattle.fl_history_rings.specs.declared.board.Action.TheVariants.{Put, Found, Missed, Saw, Took}
use Rattle.fl_history_rings.specs.declared.board.Entry.{Entry}
use Rattle.fl_history_rings.specs.declared.board.SideEnd.{SideEnd}
use Rattle.fl_history_rings.specs.declared.board.Insight.{Insight}
use Rattle.fl_history_rings.specs.declared.board.Insight.TheVariants.{Nothing, Writing, Reading}
use Rattle.fl_history_rings.specs.declared.board.CoreView.{CoreView}
use Rattle.fl_history_rings.specs.Rings.{entry}
use Rattle.fl_history_rings.specs.Rule.{KnowsSide, part_at, part_in, gather, known_from, one_put, one_took, one_found, puts_at, takes_at, known_at, seen_at, view_of}
use Rattle.fl_history_rings.specs.Seats.{put_insight}
use Rattle.fl_history_rings.proofs.Logs.{then_is, else_is, gather_here, gather_else, not_gathered, known_push}
use Rattle.fl_history_rings.proofs.Told.{seen_here, seen_else}
use Rattle.fl_history_rings.proofs.Notes.{Learns}

-- ---- what can't be both

pub nothing_reading : (s : ℕ) (p : List ℕ) (c : ℕ) → Nothing ≡ Reading s p c → ⊥
nothing_reading s p c e = cc

pub writing_reading : (j s c : ℕ) (p q : List ℕ) → Writing j p ≡ Reading s q c → ⊥
writing_reading j s c p q e = cc

pub reading_side : (j s c d : ℕ) (p q : List ℕ) → Reading j p c ≡ Reading s q d → j ≡ s
reading_side j s c d p q e = cc

pub reading_part : (j s c d : ℕ) (p q : List ℕ) → Reading j p c ≡ Reading s q d → p ≡ q
reading_part j s c d p q e = cc

pub reading_control : (j s c d : ℕ) (p q : List ℕ) → Reading j p c ≡ Reading s q d → c ≡ d
reading_control j s c d p q e = cc

-- ---- payload words of the next slot, in hand or none

pub part_in_put : (s : ℕ) (p : List ℕ) → part_in (put_insight s p) ≡ p
part_in_put s [] = refl
part_in_put s (x ∷ xs) = refl

pub writing_here : (s : ℕ) (p : List ℕ) → part_at s (Writing s p) ≡ p
writing_here s p = let none : List ℕ = [] in then_is (s == s) p none (eq-eqb s s refl)

pub writing_else : (s j : ℕ) (p : List ℕ) → j ≢ s → part_at j (Writing s p) ≡ []
writing_else s j p ne = let none : List ℕ = [] in else_is (s == j) p none (ne_eqb s j (λ e. ne (sym e)))

pub part_here : (s : ℕ) (p : List ℕ) → part_at s (put_insight s p) ≡ p
part_here s [] = refl
part_here s (x ∷ xs) = writing_here s (x ∷ xs)

pub part_else : (s j : ℕ) (p : List ℕ) → j ≢ s → part_at j (put_insight s p) ≡ []
part_else s j [] ne = refl
part_else s j (x ∷ xs) ne = writing_else s j (x ∷ xs) ne

-- ---- what a history says, once a step is noted that says nothing of it

module _ (j : ℕ) (did : List Entry) (e : Entry) where
  known_kept : gather one_found j (did ++ e ∷ []) ≡ gather one_found j did → known_at j did ≡ known_at j (did ++ e ∷ [])
  known_kept same = sym (ap (λ (xs : List ℕ). known_from 0 xs) same)

module _ (ends : List SideEnd) (core s : ℕ) (did : List Entry) (x : SideView) where
  abbrev pub sees : Insight → CoreView
  sees i = view_of ends core did i

  abbrev pub did_this : Action → Insight → CoreView
  did_this d i = view_of ends core (did ++ entry core s d ∷ []) i

  -- ---- steps that aren't noted

  pub learns_part : (p p' : List ℕ) (w' : WriterView) → w'.sent ≡ x.put.sent → w'.known ≡ x.put.known → (x.put.part ≡ p → w'.part ≡ p')
      → Learns s (sees (put_insight s p)) (sees (Writing s p')) x (record { put = w'; take = x.take })
  learns_part p p' w' sent known part = record {
    core_is = refl;
    sides_are = refl;
    here = λ old. record {
      sent_is = sent ∙ old.sent_is;
      got_is = old.got_is;
      known_is = known ∙ old.known_is;
      part_is = part (old.part_is ∙ part_here s p) ∙ sym (writing_here s p');
      peeked_is = old.peeked_is;
      loaded = λ q c e. absurd (writing_reading s s c p' q e);
    };
    beside = λ j v ne old. record {
      sent_is = old.sent_is;
      got_is = old.got_is;
      known_is = old.known_is;
      part_is = old.part_is ∙ (part_else s j p ne ∙ sym (writing_else s j p' ne));
      peeked_is = old.peeked_is;
      loaded = λ q c e. absurd (writing_reading s j c p' q e);
    };
  }

  pub learns_loaded : (p : List ℕ) (c v : ℕ) → Learns s (sees (Reading s p c)) (sees (Reading s (p ++ v ∷ []) c)) x (side_loaded x v)
  learns_loaded p c v = record {
    core_is = refl;
    sides_are = refl;
    here = λ old. record {
      sent_is = old.sent_is;
      got_is = old.got_is;
      known_is = old.known_is;
      part_is = old.part_is;
      peeked_is = old.peeked_is;
      loaded = λ q d e.
          let l = old.loaded p c refl in
          (ap (λ (ys : List ℕ). ys ++ v ∷ []) l.0 ∙ reading_part s s c d (p ++ v ∷ []) q e, l.1 ∙ reading_control s s c d (p ++ v ∷ []) q e);
    };
    beside = λ j u ne old. record {
      sent_is = old.sent_is;
      got_is = old.got_is;
      known_is = old.known_is;
      part_is = old.part_is;
      peeked_is = old.peeked_is;
      loaded = λ q d e. absurd (ne (sym (reading_side s j c d (p ++ v ∷ []) q e)));
    };
  }

  -- ---- steps that are noted

  module _ (d : Action) (i i' : Insight) where
    abbrev the_step : Entry
    the_step = entry core s d

    else_side : (j : ℕ) (v : SideView) → j ≢ s → part_at j i ≡ part_at j i' → ((p : List ℕ) (c : ℕ) → i' ≡ Reading j p c → ⊥) → KnowsSide j (sees i) v → KnowsSide j (did_this d i') v
    else_side j v ne parts none old =
        let away : s ≢ j = λ e. ne (sym e) in
        record {
          sent_is = old.sent_is ∙ sym (gather_else one_put j did the_step away);
          got_is = old.got_is ∙ sym (gather_else one_took j did the_step away);
          known_is = old.known_is ∙ known_kept j did the_step (gather_else one_found j did the_step away);
          part_is = old.part_is ∙ parts;
          peeked_is = old.peeked_is ∙ sym (seen_else j did the_step away);
          loaded = λ p c e. absurd (none p c e);
        }

    learns_noted : (x' : SideView) → ((j : ℕ) → j ≢ s → part_at j i ≡ part_at j i') → ((j : ℕ) (p : List ℕ) (c : ℕ) → j ≢ s → i' ≡ Reading j p c → ⊥) → (KnowsSide s (sees i) x → KnowsSide s (did_this d i') x')
        → Learns s (sees i) (did_this d i') x x'
    learns_noted x' parts none new = record {
      core_is = refl;
      sides_are = refl;
      here = new;
      beside = λ j v ne old. else_side j v ne (parts j ne) (λ p c e. none j p c ne e) old;
    }

    -- a noted step that puts, takes and finds nothing, after which nothing is in hand
    quiet : (x' : SideView) → one_put d ≡ [] → one_took d ≡ [] → one_found d ≡ [] → x'.put.sent ≡ x.put.sent → x'.take.got ≡ x.take.got → x'.put.known ≡ x.put.known → x'.put.part ≡ x.put.part → part_at s i ≡ [] → i' ≡ Nothing
        → x'.take.peeked ≡ seen_at s (did ++ the_step ∷ []) → KnowsSide s (sees i) x → KnowsSide s (did_this d i') x'
    quiet x' no_put no_took no_found sent got known part none rest seen old = record {
      sent_is = sent ∙ old.sent_is ∙ sym (not_gathered one_put s did the_step no_put);
      got_is = got ∙ old.got_is ∙ sym (not_gathered one_took s did the_step no_took);
      known_is = known ∙ old.known_is ∙ known_kept s did the_step (not_gathered one_found s did the_step no_found);
      part_is = part ∙ old.part_is ∙ (none ∙ sym (ap (λ (z : Insight). part_at s z) rest));
      peeked_is = seen;
      loaded = λ q c e. absurd (nothing_reading s q c (sym rest ∙ e));
    }

  pub learns_put : (p : List ℕ) (c : ℕ) → Learns s (sees (put_insight s p)) (did_this (Put (frag_from p c)) Nothing) x (side_put x c)
  learns_put p c =
      let e : Entry = entry core s (Put (frag_from p c)) in
      learns_noted (Put (frag_from p c)) (put_insight s p) Nothing (side_put x c) (λ j ne. part_else s j p ne) (λ j q d ne is. nothing_reading j q d is)
      (λ old.
      record {
        sent_is = ap (λ (l : List Frag). l ++ frag_from x.put.part c ∷ []) old.sent_is ∙ ap (λ (z : List ℕ). puts_at s did ++ frag_from z c ∷ []) (old.part_is ∙ part_here s p) ∙ sym (gather_here one_put s did e refl);
        got_is = old.got_is ∙ sym (not_gathered one_took s did e refl);
        known_is = old.known_is ∙ known_kept s did e (not_gathered one_found s did e refl);
        part_is = refl;
        peeked_is = old.peeked_is ∙ sym (seen_here s did e refl);
        loaded = λ q d is. absurd (nothing_reading s q d is);
      })

  -- a control word that has the epoch due tells a count
  known_then : (n c : ℕ) → epoch_of c ≡ epoch_at n (length x.take.got) → x.put.known ≡ known_at s did → known_by n x c ≡ known_at s (did ++ entry core s (Found c) ∷ [])
  known_then n c due old =
      then_is (epoch_of c == epoch_at n (length x.take.got)) (count_from x.put.known (told_of c)) x.put.known (eq-eqb (epoch_of c) (epoch_at n (length x.take.got)) due)
      ∙ ap (λ (k : ℕ). count_from k (told_of c)) old ∙ sym (known_push 0 (gather one_found s did) c) ∙ sym (ap (λ (xs : List ℕ). known_from 0 xs) (gather_here one_found s did (entry core s (Found c)) refl))

  pub learns_found : (n c : ℕ) (i' : Insight) → epoch_of c ≡ epoch_at n (length x.take.got) → part_at s i' ≡ [] → ((j : ℕ) → j ≢ s → part_at j i' ≡ [])
      → ((j : ℕ) (q : List ℕ) (d : ℕ) → i' ≡ Reading j q d → (j ≡ s) × (q ≡ []) × (d ≡ c)) → Learns s (sees Nothing) (did_this (Found c) i') x (side_control n x c)
  learns_found n c i' due none others reads =
      let e : Entry = entry core s (Found c) in
      learns_noted (Found c) Nothing i' (side_control n x c) (λ j ne. sym (others j ne)) (λ j q d ne is. ne (reads j q d is).0)
      (λ old.
      record {
        sent_is = old.sent_is ∙ sym (not_gathered one_put s did e refl);
        got_is = old.got_is ∙ sym (not_gathered one_took s did e refl);
        known_is = known_then n c due old.known_is;
        part_is = old.part_is ∙ sym none;
        peeked_is = old.peeked_is ∙ sym (seen_here s did e refl);
        loaded = λ q d is. let r = reads s q d is in (sym r.1, sym r.2);
      })

  pub learns_missed : (n c : ℕ) → epoch_of c ≢ epoch_at n (length x.take.got) → Learns s (sees Nothing) (did_this Missed Nothing) x (side_control n x c)
  learns_missed n c other =
      let kept : known_by n x c ≡ x.put.known = else_is (epoch_of c == epoch_at n (length x.take.got)) (count_from x.put.known (told_of c)) x.put.known (ne_eqb (epoch_of c) (epoch_at n (length x.take.got)) other) in
      learns_noted Missed Nothing Nothing (side_control n x c) (λ j ne. refl) (λ j q d ne is. nothing_reading j q d is)
      (λ old. quiet Missed Nothing Nothing (side_control n x c) refl refl refl refl refl kept refl refl refl (old.peeked_is ∙ sym (seen_here s did (entry core s Missed) refl)) old)

  -- the fragment that is loaded, by what is in hand
  pub loaded_so : (p : List ℕ) (c v : ℕ) → KnowsSide s (sees (Reading s p c)) x → loaded_frag x.take v ≡ frag_from (p ++ v ∷ []) c
  loaded_so p c v old =
      let l = old.loaded p c refl in
      ap (λ (z : List ℕ). frag_from (z ++ v ∷ []) x.take.last) l.0 ∙ ap (λ (z : ℕ). frag_from (p ++ v ∷ []) z) l.1

  pub learns_saw : (p : List ℕ) (c v : ℕ) → Learns s (sees (Reading s p c)) (did_this (Saw (frag_from (p ++ v ∷ []) c)) Nothing) x (side_peeked x v)
  learns_saw p c v =
      let f : Frag = frag_from (p ++ v ∷ []) c in
      learns_noted (Saw f) (Reading s p c) Nothing (side_peeked x v) (λ j ne. refl) (λ j q d ne is. nothing_reading j q d is)
      (λ old. quiet (Saw f) (Reading s p c) Nothing (side_peeked x v) refl refl refl refl refl refl refl refl refl
      (ap (λ (g : Frag). let o : Option Frag = Some g in o) (loaded_so p c v old) ∙ sym (seen_here s did (entry core s (Saw f)) refl)) old)

  pub learns_took : (p : List ℕ) (c v : ℕ) → Learns s (sees (Reading s p c)) (did_this (Took (frag_from (p ++ v ∷ []) c)) Nothing) x (side_got x v)
  learns_took p c v =
      let f : Frag = frag_from (p ++ v ∷ []) c in
      let e : Entry = entry core s (Took f) in
      learns_noted (Took f) (Reading s p c) Nothing (side_got x v) (λ j ne. refl) (λ j q d ne is. nothing_reading j q d is)
      (λ old.
      record {
        sent_is = old.sent_is ∙ sym (not_gathered one_put s did e refl);
        got_is = ap (λ (l : List Frag). l ++ loaded_frag x.take v ∷ []) old.got_is ∙ ap (λ (g : Frag). takes_at s did ++ g ∷ []) (loaded_so p c v old) ∙ sym (gather_here one_took s did e refl);
        known_is = old.known_is ∙ known_kept s did e (not_gathered one_found s did e refl);
        part_is = old.part_is;
        peeked_is = sym (seen_here s did e refl);
        loaded = λ q d is. absurd (nothing_reading s q d is);
      })
