-- What a core's words and seat come to while refusals are told and learned.
use Rattle.std.proofs.Common.{◌≡◌, ◌≢◌, refl, sym, ap, ◌∙◌, subst, ℕ, zero, suc, ◌⊎◌, inl, inr, ◌==◌, if◌then◌else◌, List, slice_get, slice_set, length}
use Rattle.std.proofs.Common.{Option, Some, None, Bool, true, false, arith}
use Rattle.std.proofs.lemmas.Bool.Decides.{nat_tests}
use Rattle.fl_base.specs.declared.identity.EndId.{EndId}
use Rattle.fl_ring.specs.SharedSides.{TheSide}
use Rattle.fl_cores_table.specs.declared.table.OpeningRefusal.{OpeningRefusal}
use Rattle.fl_cores_table.specs.Seats.{TheCoresSeat}
use Rattle.fl_core.proofs.BoardPlaces.{one_stands, set_here, set_elsewhere}
use Rattle.fl_core.specs.View.{place_of}
use Rattle.fl_core.specs.declared.core_job.CoreJob.{CoreJob}
use Rattle.fl_core_run.specs.declared.opening_status.OpeningStatus.{OpeningStatus}
use Rattle.fl_core_run.specs.declared.opening_status.OpeningStatus.TheVariants.{Silent, Tells, Hears, Refused}
use Rattle.fl_core_run.specs.declared.run.RunEnd.{RunEnd}
use Rattle.fl_core_run.specs.declared.run.RunEnd.TheVariants.{Finished, Unfinished, Told}
use Rattle.fl_core_run.specs.Run.{TheRun}
use Rattle.fl_core_run.specs.Turn.{Swept}
use Rattle.fl_core_run.specs.OpeningStatus.{refusal_at, TellsIf, HearsOf, Exchanges, TheRunSeat, ExchangesAt, ExchangesAll}
use Rattle.fl_core_run.specs.Ran.{task, RunMoment, Sees, CountedTurn, EndsAs}
use Rattle.fl_cores_laws.specs.EndedCores.{shared_ways, OneCore, Went}
use Rattle.fl_cores_laws.specs.EndedHeard.{Among}
use Rattle.fl_cores_laws.proofs.Going.{Some_, none, behind, before, goes_on}

by_word : (t : OpeningStatus → Type 0) (x y : OpeningStatus) → x ≡ y → t x → t y
by_word t x y same h = subst t same h

-- ---- what a word comes to, where F holds of each end whose end's progress has a refusal

module _ (F : EndId → Type 0) where
  abbrev pub Became : List OpeningRefusal → EndId → OpeningStatus → OpeningStatus → Type 0
  Became heard e Silent w = w ≡ Silent
  Became heard e (Tells job) w = (w ≡ Tells job) ⊎ ((number : ℕ) × (w ≡ Refused number) × F e)
  Became heard e (Hears job) w = (w ≡ Hears job) ⊎ ((number : ℕ) × (w ≡ Refused number) × (number ≢ 0) × Among job number heard)
  Became heard e (Refused number) w = w ≡ Refused number

  pub same_first : (heard : List OpeningRefusal) (e : EndId) (w : OpeningStatus) → Became heard e w w
  same_first heard e Silent = refl
  same_first heard e (Tells job) = inl refl
  same_first heard e (Hears job) = inl refl
  same_first heard e (Refused number) = refl

  abbrev Grows : List OpeningRefusal → List OpeningRefusal → Type 0
  Grows xs ys = (job number : ℕ) → Among job number xs → Among job number ys

  more_heard : (xs ys : List OpeningRefusal) (e : EndId) (first w : OpeningStatus) → Grows xs ys → Became xs e first w → Became ys e first w
  more_heard xs ys e Silent w grows h = h
  more_heard xs ys e (Tells job) w grows h = h
  more_heard xs ys e (Hears job) w grows (inl h) = inl h
  more_heard xs ys e (Hears job) w grows (inr (number, is, some, there)) = inr (number, is, some, grows job number there)
  more_heard xs ys e (Refused number) w grows h = h

  -- a word that tells of a job did so from the first
  tells_first : (heard : List OpeningRefusal) (e : EndId) (first : OpeningStatus) (job : ℕ) → Became heard e first (Tells job) → first ≡ Tells job
  tells_first heard e Silent job h = absurd (let clash : Tells job ≡ Silent = h in cc)
  tells_first heard e (Tells i) job (inl h) = sym h
  tells_first heard e (Tells i) job (inr (number, is, holds)) = absurd (let clash : Tells job ≡ Refused number = is in cc)
  tells_first heard e (Hears i) job (inl h) = absurd (let clash : Tells job ≡ Hears i = h in cc)
  tells_first heard e (Hears i) job (inr (number, is, some, there)) = absurd (let clash : Tells job ≡ Refused number = is in cc)
  tells_first heard e (Refused number) job h = absurd (let clash : Tells job ≡ Refused number = h in cc)

  -- ---- one exchange

  some_number : (n : ℕ) → (n == 0) ≡ false → n ≢ 0
  some_number n is same = absurd (let clash : (0 == 0) ≡ false = subst (λ (k : ℕ). (k == 0) ≡ false) same is in cc)

  -- what was heard stays heard
  grows_same : (v u : TheCoresSeat) → u ≡ v → Grows v.knows.heard u.knows.heard
  grows_same v u same job number there = subst (λ (x : TheCoresSeat). Among job number x.knows.heard) (sym same) there

  grows_told : (b : Bool) (job number : ℕ) (v u : TheCoresSeat) (w : OpeningStatus) → TellsIf b job number v w u → Grows v.knows.heard u.knows.heard
  grows_told true job number v u w h = grows_same v u h.1
  grows_told false job number v u w h = λ i n there. subst (λ (x : TheCoresSeat). Among i n x.knows.heard) (sym h.1) there

  grows_heard : (o : Option ℕ) (job : ℕ) (v u : TheCoresSeat) (w : OpeningStatus) → HearsOf job o v w u → Grows v.knows.heard u.knows.heard
  grows_heard (Some e) job v u w h = grows_same v u h.1
  grows_heard None job v u w h = λ i n there. subst (λ (x : TheCoresSeat). Among i n x.knows.heard) (sym h.1) (inr there)

  grows_by : (s : TheRun TheSide) (e : EndId) (word w : OpeningStatus) (v u : TheCoresSeat) → Exchanges s e word v w u → Grows v.knows.heard u.knows.heard
  grows_by s e Silent w v u h = grows_same v u h.1
  grows_by s e (Tells job) w v u h = grows_told (refusal_at s e == 0) job (refusal_at s e) v u w h
  grows_by s e (Hears job) w v u h = grows_heard (place_of s.core e) job v u w h
  grows_by s e (Refused number) w v u h = grows_same v u h.1

  -- the word
  told_by : (s : TheRun TheSide) (e : EndId) (job : ℕ) (v u : TheCoresSeat) (w : OpeningStatus) (says : refusal_at s e ≢ 0 → F e) (b : Bool) → (refusal_at s e == 0) ≡ b
      → TellsIf b job (refusal_at s e) v w u → Became u.knows.heard e (Tells job) w
  told_by s e job v u w says true is h = inl h.0
  told_by s e job v u w says false is h = inr (refusal_at s e, h.0, says (some_number (refusal_at s e) is))

  number_by : (job number : ℕ) (heard : List OpeningRefusal) (e : EndId) (w : OpeningStatus) (b : Bool) → (number == 0) ≡ b → Among job number heard
      → w ≡ (if b then Hears job else Refused number) → Became heard e (Hears job) w
  number_by job number heard e w true is there h = inl h
  number_by job number heard e w false is there h = inr (number, h, some_number number is, there)

  heard_by : (o : Option ℕ) (e : EndId) (job : ℕ) (v u : TheCoresSeat) (w : OpeningStatus) → HearsOf job o v w u → Became u.knows.heard e (Hears job) w
  heard_by (Some n) e job v u w h = inl h.0
  heard_by None e job v u w h =
      number_by job h.0 u.knows.heard e w (h.0 == 0) refl (subst (λ (x : TheCoresSeat). Among job h.0 x.knows.heard) (sym h.1) (inl (refl, refl))) h.3

  goes_by : (s : TheRun TheSide) (e : EndId) (first word w : OpeningStatus) (v u : TheCoresSeat) → (refusal_at s e ≢ 0 → F e) → Became v.knows.heard e first word
      → Exchanges s e word v w u → Became u.knows.heard e first w
  goes_by s e Silent word w v u says is h =
      let now = subst (λ (x : OpeningStatus). Exchanges s e x v w u) is h in now.0
  goes_by s e (Tells job) word w v u says (inl is) h =
      let now = subst (λ (x : OpeningStatus). Exchanges s e x v w u) is h in told_by s e job v u w says (refusal_at s e == 0) refl now
  goes_by s e (Tells job) word w v u says (inr (number, is, holds)) h =
      let now = subst (λ (x : OpeningStatus). Exchanges s e x v w u) is h in inr (number, now.0, holds)
  goes_by s e (Hears job) word w v u says (inl is) h =
      let now = subst (λ (x : OpeningStatus). Exchanges s e x v w u) is h in heard_by (place_of s.core e) e job v u w now
  goes_by s e (Hears job) word w v u says (inr (number, is, some, there)) h =
      let now = subst (λ (x : OpeningStatus). Exchanges s e x v w u) is h in inr (number, now.0, some, grows_by s e word w v u h job number there)
  goes_by s e (Refused number) word w v u says is h =
      let now = subst (λ (x : OpeningStatus). Exchanges s e x v w u) is h in now.0

  -- what the seat has stored
  abbrev Stores : TheRun TheSide → EndId → OpeningStatus → TheCoresSeat → TheCoresSeat → Type 0
  Stores s e word v u = (job number : ℕ) → Among job number u.knows.stored → Among job number v.knows.stored ⊎ ((word ≡ Tells job) × (refusal_at s e ≢ 0))

  stores_same : (s : TheRun TheSide) (e : EndId) (word : OpeningStatus) (v u : TheCoresSeat) → u ≡ v → Stores s e word v u
  stores_same s e word v u same job number there = inl (subst (λ (x : TheCoresSeat). Among job number x.knows.stored) same there)

  stores_told : (s : TheRun TheSide) (e : EndId) (job : ℕ) (v u : TheCoresSeat) (w : OpeningStatus) (b : Bool) → (refusal_at s e == 0) ≡ b
      → TellsIf b job (refusal_at s e) v w u → Stores s e (Tells job) v u
  stores_told s e job v u w true is h = stores_same s e (Tells job) v u h.1
  stores_told s e job v u w false is h = λ i n there.
      elim (subst (λ (x : TheCoresSeat). Among i n x.knows.stored) h.1 there) [
        | inl new ↦ inr (ap Tells new.0, some_number (refusal_at s e) is)
        | inr old ↦ inl old
      ]

  stores_heard : (s : TheRun TheSide) (e : EndId) (job : ℕ) (v u : TheCoresSeat) (w : OpeningStatus) (o : Option ℕ) → HearsOf job o v w u → Stores s e (Hears job) v u
  stores_heard s e job v u w (Some n) h = stores_same s e (Hears job) v u h.1
  stores_heard s e job v u w None h = λ i n there. inl (subst (λ (x : TheCoresSeat). Among i n x.knows.stored) h.1 there)

  stores_by : (s : TheRun TheSide) (e : EndId) (word w : OpeningStatus) (v u : TheCoresSeat) → Exchanges s e word v w u → Stores s e word v u
  stores_by s e Silent w v u h = stores_same s e Silent v u h.1
  stores_by s e (Tells job) w v u h = stores_told s e job v u w (refusal_at s e == 0) refl h
  stores_by s e (Hears job) w v u h = stores_heard s e job v u w (place_of s.core e) h
  stores_by s e (Refused number) w v u h = stores_same s e (Refused number) v u h.1

  -- ---- all words of a core

  module _ (ends : List EndId) (first : EndId → OpeningStatus) where
    -- each end's word came of its first one, and what was stored is told of an end here of which F holds
    pub record Tracks (s : TheRunSeat) : Type 0 where
      pub words : (k : ℕ) (e : EndId) → slice_get ends k ≡ Some e → (w : OpeningStatus) × (slice_get s.words k ≡ Some w) × Became s.seat.knows.heard e (first e) w
      pub stored : (job number : ℕ) → Among job number s.seat.knows.stored → (e : EndId) × (k : ℕ) × (slice_get ends k ≡ Some e) × (first e ≡ Tells job) × F e

    module _ (s : TheRun TheSide) (says : (e : EndId) → refusal_at s e ≢ 0 → F e) where
      one_word : (n : ℕ) (a b : TheRunSeat) (h : ExchangesAt s ends n a b) → Tracks a → (k : ℕ) (e : EndId) → slice_get ends k ≡ Some e → (t : Bool) → (k == n) ≡ t
          → (w : OpeningStatus) × (slice_get b.words k ≡ Some w) × Became b.seat.knows.heard e (first e) w
      one_word n a b h tracks k e at true same =
          let eq : k ≡ n = grind (arith, nat_tests, same) in
          let old = tracks.words k e at in
          let name : h.name ≡ e = one_stands ends n h.name e h.name_is (subst (λ (i : ℕ). slice_get ends i ≡ Some e) eq at) in
          let word : old.0 ≡ h.word = one_stands a.words n old.0 h.word (subst (λ (i : ℕ). slice_get a.words i ≡ Some old.0) eq old.1) h.word_is in
          let exchanges = subst (λ (x : EndId). Exchanges s x h.word a.seat h.after b.seat) name h.exchanges in
          let was = subst (λ (x : OpeningStatus). Became a.seat.knows.heard e (first e) x) word old.2 in (
            h.after,
            ap (λ (xs : List OpeningStatus). slice_get xs k) h.rest ∙ subst (λ (i : ℕ). slice_get (slice_set a.words n h.after) i ≡ Some h.after) (sym eq) (set_here a.words n h.word h.after h.word_is),
            goes_by s e (first e) h.word h.after a.seat b.seat (says e) was exchanges,
          )
      one_word n a b h tracks k e at false same =
          let ne : k ≢ n = λ eq. absurd (grind (arith, nat_tests, same, eq)) in
          let old = tracks.words k e at in (
            old.0,
            ap (λ (xs : List OpeningStatus). slice_get xs k) h.rest ∙ set_elsewhere a.words n k h.after ne ∙ old.1,
            more_heard a.seat.knows.heard b.seat.knows.heard e (first e) old.0 (grows_by s h.name h.word h.after a.seat b.seat h.exchanges) old.2,
          )

      one_stored : (n : ℕ) (a b : TheRunSeat) (h : ExchangesAt s ends n a b) → Tracks a → (job number : ℕ) → Among job number b.seat.knows.stored
          → (e : EndId) × (k : ℕ) × (slice_get ends k ≡ Some e) × (first e ≡ Tells job) × F e
      one_stored n a b h tracks job number there = elim (stores_by s h.name h.word h.after a.seat b.seat h.exchanges job number there) [
        | inl old ↦ tracks.stored job number old
        | inr new ↦
            (let was = tracks.words n h.name h.name_is in
            let word : was.0 ≡ Tells job = one_stands a.words n was.0 h.word was.1 h.word_is ∙ new.0 in
            (h.name, n, h.name_is, tells_first a.seat.knows.heard h.name (first h.name) job (subst (λ (x : OpeningStatus). Became a.seat.knows.heard h.name (first h.name) x) word was.2), says h.name new.1))
      ]

      one : (n : ℕ) (a b : TheRunSeat) → ExchangesAt s ends n a b → Tracks a → Tracks b
      one n a b h tracks = record {
        words = λ k e at. one_word n a b h tracks k e at (k == n) refl;
        stored = one_stored n a b h tracks;
      }

      so_many : (n : ℕ) (a b : TheRunSeat) → Swept (ExchangesAt s ends) n a b → Tracks a → Tracks b
      so_many zero a b same tracks = subst (λ (x : TheRunSeat). Tracks x) (sym same) tracks
      so_many (suc n) a b h tracks = one n h.0 b h.2 (so_many n a h.0 h.1 tracks)

      pub exchanged : (a b : TheRunSeat) → ExchangesAll s ends a b → Tracks a → Tracks b
      exchanged a b h tracks = so_many (length ends) a b h tracks

    -- a look at the counter
    pub looked_on : (a b : TheRunSeat) (count : ℕ) → Sees a count b → Tracks a → Tracks b
    looked_on a b count sees tracks = record {
      words = λ k e at.
          let old = tracks.words k e at in (
            old.0,
            ap (λ (xs : List OpeningStatus). slice_get xs k) sees.0 ∙ old.1,
            subst (λ (x : TheCoresSeat). Became x.knows.heard e (first e) old.0) (sym sees.1) old.2,
          );
      stored = λ job number there. tracks.stored job number (subst (λ (x : TheCoresSeat). Among job number x.knows.stored) sees.1 there);
    }

-- ---- a core's counted turns

module _ (F : EndId → Type 0) (first : EndId → OpeningStatus) (jobs : List CoreJob) (limit : ℕ) (c : OneCore) (w : Went jobs limit c)
    (says : (m : TheRun TheSide) (e : EndId) → Some_ c.plan jobs c.begin.run m → Some_ c.plan jobs m c.finish → refusal_at m e ≢ 0 → F e)
    (begins : Tracks F c.plan.ends.items first c.begin.run_seat) where
  abbrev Has : TheRunSeat → Type 0
  Has s = Tracks F c.plan.ends.items first s

  swept : (k : ℕ) (m : RunMoment TheSide) → Swept (λ n. CountedTurn shared_ways (task c.plan jobs limit)) k c.begin m → Some_ c.plan jobs m.run c.finish
      → Has m.run_seat × Some_ c.plan jobs c.begin.run m.run
  swept zero m same on = (
    subst (λ (x : RunMoment TheSide). Has x.run_seat) (sym same) begins,
    none c.plan jobs c.begin.run m.run (ap (λ (x : RunMoment TheSide). x.run) same),
  )
  swept (suc k) m (p, rest, turn) on =
      let from = before c.plan jobs p.run m.run c.finish turn.turn on in
      let old = swept k p rest from in
      let stock = exchanged F c.plan.ends.items first p.run (λ e some. says p.run e old.1 from some) p.run_seat turn.stock turn.left.0 old.0 in
      (looked_on F c.plan.ends.items first turn.stock m.run_seat turn.count turn.sees stock, behind c.plan jobs c.begin.run p.run m.run old.1 turn.turn)

  ended : (e : RunEnd) (a : RunMoment TheSide) (b : TheRunSeat) → EndsAs (task c.plan jobs limit) c.part.turns e a b
      → ((name : EndId) → refusal_at a.run name ≢ 0 → F name) → Has a.run_seat → Has b
  ended Finished a b h tells old = exchanged F c.plan.ends.items first a.run tells a.run_seat b h.0 old
  ended Unfinished a b h tells old = exchanged F c.plan.ends.items first a.run tells a.run_seat b h.1.0 old
  ended Told a b (x, count, stock, sees, stop) tells old =
      looked_on F c.plan.ends.items first x b count sees (exchanged F c.plan.ends.items first a.run tells a.run_seat x stock.0 old)

  -- at the point where they came to an end
  pub at_point : Has c.point.run_seat
  at_point =
      let after = w.counted.after in
      let on : Some_ c.plan jobs after.run c.finish =
      subst (λ (r : TheRun TheSide). Some_ c.plan jobs r c.finish) w.counted.rests (goes_on c.plan jobs limit c.part.end c.point.run c.finish w.goes_on) in
      let all = swept c.part.turns after w.counted.turns on in
      ended c.part.end after c.point.run_seat w.counted.ends (λ e some. says after.run e all.1 on some) all.0
