-- A side once its core did more.
use Rattle.std.proofs.Common.{Option, Some, None, ℕ, ◌≡◌, ◌≢◌, ◌%◌, List, [], ◌∷◌, ◌++◌, length, ap, ◌∙◌, refl}
use Rattle.std.proofs.lemmas.List.{length_push}
use Rattle.atomic_table.specs.Seated.{TableId}
use Rattle.fl_base.specs.declared.fragment.Frag.{Frag}
use Rattle.fl_base.specs.Control.{told_of, stamped}
use Rattle.fl_link.specs.Cursor.{epoch_at}
use Rattle.fl_ring.specs.Counts.{count_from}
use Rattle.fl_ring.specs.SharedSides.{TheSide, side_missed, side_counted, side_seen, side_taken, side_written}
use Rattle.fl_history_rings.specs.declared.board.Action.{Action}
use Rattle.fl_history_rings.specs.declared.board.Action.TheVariants.{Put, Found, Missed, Saw, Took}
use Rattle.fl_history_rings.specs.declared.board.Entry.{Entry}
use Rattle.fl_history_rings.specs.Rings.{entry}
use Rattle.fl_history_rings.specs.Rule.{gather, known_from, one_put, one_took, one_found, puts_at, takes_at, known_at, one_action, seen_from, told_from}
use Rattle.fl_history_rings.specs.Cores.{TheCore, noting}
use Rattle.fl_history_rings.proofs.Logs.{gather_here, gather_else, not_gathered, known_push}
use Rattle.fl_history_rings.proofs.Told.{told_put, told_else, told_still, seen_here, seen_else}
use Rattle.fl_history_sides.specs.States.{until_last, TheHistorySide, holder_of, one_load, one_miss, side_after, shown_of, core_until, with_steps}
use Rattle.fl_history_sides.specs.Noted.{noting_all}
use Rattle.fl_history_sides.proofs.Until.{until_else, gather_until}

module _ (table : TableId) (n s : ℕ) where
  abbrev seen_as : List Frag → ℕ → ℕ → List Frag → Option Frag → ℕ → ℕ → TheSide
  seen_as sent known loads got peeked misses told = record {
    ring = table;
    holder = holder_of s;
    size = n;
    sent = sent;
    known = known;
    loads = loads;
    got = got;
    peeked = peeked;
    misses = misses;
    told = told;
  }

  alike : {a a2 : List Frag} {b b2 c c2 : ℕ} {d d2 : List Frag} {e e2 : Option Frag} {f f2 g g2 : ℕ} → a ≡ a2 → b ≡ b2 → c ≡ c2 → d ≡ d2 → e ≡ e2 → f ≡ f2 → g ≡ g2 → seen_as a b c d e f g ≡ seen_as a2 b2 c2 d2 e2 f2 g2
  alike {a} {a2} {b} {b2} {c} {c2} {d} {d2} {e} {e2} {f} {f2} {g} {g2} pa pb pc pd pe pf pg =
      ap (λ (x : List Frag). seen_as x b c d e f g) pa ∙ ap (λ (x : ℕ). seen_as a2 x c d e f g) pb ∙ ap (λ (x : ℕ). seen_as a2 b2 x d e f g) pc ∙ ap (λ (x : List Frag). seen_as a2 b2 c2 x e f g) pd
      ∙ ap (λ (x : Option Frag). seen_as a2 b2 c2 d2 x f g) pe ∙ ap (λ (x : ℕ). seen_as a2 b2 c2 d2 e2 x g) pf ∙ ap (λ (x : ℕ). seen_as a2 b2 c2 d2 e2 f2 x) pg

  -- by another side
  pub after_else : (es : List Entry) (e : Entry) → e.side ≢ s → side_after table n s (es ++ e ∷ []) ≡ side_after table n s es
  after_else es e ne =
      alike (gather_else one_put s es e ne) (ap (λ (xs : List ℕ). known_from 0 xs) (gather_else one_found s es e ne)) (ap length (gather_else one_load s es e ne)) (gather_else one_took s es e ne) (seen_else s es e ne)
      (ap length (gather_else one_miss s es e ne)) (told_else s es e ne)

  -- what its core did since by others tells nothing of it
  pub after_until : (es : List Entry) → side_after table n s (until_last s es) ≡ side_after table n s es
  after_until es =
      alike (gather_until one_put s es) (ap (λ (xs : List ℕ). known_from 0 xs) (gather_until one_found s es)) (ap length (gather_until one_load s es)) (gather_until one_took s es)
      (ap (λ (ds : List Action). seen_from None ds) (gather_until one_action s es)) (ap length (gather_until one_miss s es)) (ap (λ (ds : List Action). told_from 0 0 ds) (gather_until one_action s es))

  module _ (core : ℕ) (es : List Entry) where
    abbrev is : TheSide
    is = side_after table n s es

    abbrev did : Action → List Entry
    did d = es ++ entry core s d ∷ []

    -- it found nothing
    pub after_missed : side_after table n s (did Missed) ≡ side_missed is
    after_missed =
        let e : Entry = entry core s Missed in
        alike (not_gathered one_put s es e refl) (ap (λ (xs : List ℕ). known_from 0 xs) (not_gathered one_found s es e refl)) (ap length (gather_here one_load s es e refl) ∙ length_push (gather one_load s es) Missed)
        (not_gathered one_took s es e refl) (seen_here s es e refl) (ap length (gather_here one_miss s es e refl) ∙ length_push (gather one_miss s es) Missed) (told_still s es e refl)

    -- it found a control word
    pub after_found : (control : ℕ) → side_after table n s (did (Found control)) ≡ side_counted is (count_from (known_at s es) (told_of control))
    after_found control =
        let e : Entry = entry core s (Found control) in
        alike (not_gathered one_put s es e refl) (ap (λ (xs : List ℕ). known_from 0 xs) (gather_here one_found s es e refl) ∙ known_push 0 (gather one_found s es) control)
        (ap length (gather_here one_load s es e refl) ∙ length_push (gather one_load s es) (Found control)) (not_gathered one_took s es e refl) (seen_here s es e refl) (ap length (not_gathered one_miss s es e refl)) (told_still s es e refl)

    -- and saw the fragment, or took it
    after_saw : (frag : Frag) → side_after table n s (did (Saw frag)) ≡ seen_as is.sent is.known is.loads is.got (Some frag) is.misses is.told
    after_saw frag =
        let e : Entry = entry core s (Saw frag) in
        alike (not_gathered one_put s es e refl) (ap (λ (xs : List ℕ). known_from 0 xs) (not_gathered one_found s es e refl)) (ap length (not_gathered one_load s es e refl)) (not_gathered one_took s es e refl) (seen_here s es e refl)
        (ap length (not_gathered one_miss s es e refl)) (told_still s es e refl)

    after_took : (frag : Frag) → side_after table n s (did (Took frag)) ≡ (let none : Option Frag = None in seen_as is.sent is.known is.loads (is.got ++ frag ∷ []) none is.misses is.told)
    after_took frag =
        let e : Entry = entry core s (Took frag) in
        alike (not_gathered one_put s es e refl) (ap (λ (xs : List ℕ). known_from 0 xs) (not_gathered one_found s es e refl)) (ap length (not_gathered one_load s es e refl)) (gather_here one_took s es e refl) (seen_here s es e refl)
        (ap length (not_gathered one_miss s es e refl)) (told_still s es e refl)

    -- it put a fragment
    after_put : (frag : Frag) → side_after table n s (did (Put frag)) ≡ seen_as (is.sent ++ frag ∷ []) is.known is.loads is.got is.peeked is.misses (length is.got)
    after_put frag =
        let e : Entry = entry core s (Put frag) in
        alike (gather_here one_put s es e refl) (ap (λ (xs : List ℕ). known_from 0 xs) (not_gathered one_found s es e refl)) (ap length (not_gathered one_load s es e refl)) (not_gathered one_took s es e refl) (seen_here s es e refl)
        (ap length (not_gathered one_miss s es e refl)) (told_put s es e frag refl refl)

    pub after_written : (frag : Frag) → side_after table n s (did (Put (stamped frag (epoch_at n (length (puts_at s es))) (length (takes_at s es) % 65536)))) ≡ side_written is frag
    after_written frag = after_put (stamped frag (epoch_at n (length (puts_at s es))) (length (takes_at s es) % 65536))

  -- a look in both its steps
  module _ (core : ℕ) (es : List Entry) (frag : Frag) where
    abbrev looked : List Entry
    looked = es ++ entry core s (Found frag.control) ∷ []

    pub after_seen : side_after table n s (looked ++ entry core s (Saw frag) ∷ []) ≡ side_seen (side_after table n s es) frag
    after_seen = after_saw core looked frag ∙ ap (λ (x : TheSide). seen_as x.sent x.known x.loads x.got (Some frag) x.misses x.told) (after_found core es frag.control)

    pub after_taken : side_after table n s (looked ++ entry core s (Took frag) ∷ []) ≡ side_taken (side_after table n s es) frag
    after_taken = after_took core looked frag ∙ ap (λ (x : TheSide). let none : Option Frag = None in seen_as x.sent x.known x.loads (x.got ++ frag ∷ []) none x.misses x.told) (after_found core es frag.control)

-- ---- a core's other sides

shown_else : (c : TheCore) (n k s : ℕ) (d : Action) → s ≢ k → shown_of (noting c s d) n k ≡ shown_of c n k
shown_else c n k s d ne =
    let e : Entry = entry c.number s d in
    ap (λ (x : TheSide). let p : TheHistorySide = record { side = x; number = k; core = core_until k (noting c s d) } in p) (after_else c.table n k c.steps e ne)
    ∙ ap (λ (l : List Entry). let p : TheHistorySide = record { side = side_after c.table n k c.steps; number = k; core = with_steps c l } in p) (until_else k c.steps e ne)

pub shown_still : (c : TheCore) (n k s : ℕ) (did : List Action) → s ≢ k → shown_of (noting_all c s did) n k ≡ shown_of c n k
shown_still c n k s [] ne = refl
shown_still c n k s (d ∷ did) ne = shown_still (noting c s d) n k s did ne ∙ shown_else c n k s d ne
