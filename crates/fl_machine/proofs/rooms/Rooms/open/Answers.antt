use Rattle.std.proofs.Common.{◌≡◌, ◌<◌, ◌++◌, ◌+◌, ◌-◌, ℕ, List, Some, take, length, map, set, replicate, refl, sym, ◌∙◌, ap, subst, arith}
use Rattle.std.specs.Vec.{vec_capacity}
use Rattle.std.proofs.lemmas.List.{length-map, length-append, length-replicate, take_all}
use Rattle.std.proofs.lemmas.Option.{slice_get_read}
use Rattle.fl_base.specs.declared.fragment.Frag.{Frag}
use Rattle.fl_machine.specs.declared.rooms.RoomRange.{RoomRange}
use Rattle.fl_machine.specs.Rooms.{IsOpened, room_in}
use Rattle.fl_machine.proofs.Laid.{are_opened, are_same, is_open, is_opened}
use Rattle.fl_machine.proofs.rooms.Rooms.open.Goals as goal

-- what stands in a room before a fragment does
abbrev empty : Frag
empty = record { words = replicate 7 0; control = 0 }

-- a block that was filled up
grown : (block new : List Frag) (start size : ℕ) → start ≡ length block → new ≡ take (start + size) block ++ replicate (start + size - length block) empty → new ≡ block ++ replicate size empty
grown block new start size at e =
    e ∙ ap (λ (xs : List Frag). xs ++ replicate (start + size - length block) empty) (take_all (start + size) block (omega (arith, at)))
    ∙ ap (λ (n : ℕ). block ++ replicate n empty) (omega (arith, at))

pub returns-in_default-clause-opened : goal.returns-in_default-clause-opened
returns-in_default-clause-opened c =
    let t = c.args.self.now in
    let inside : c.args.place < length t.spans.items = omega (arith, c.requires.there, length-map t.spans.items (room_in t.block.items)) in
    let at = slice_get_read t.spans.items (length t.spans.items) c.args.place c.index-span.result.now refl inside c.index-span.ensures in
    is_open t.block.items (vec_capacity t.block) t.spans.items t.owed c.args.place c.index-span.result.now c.in_default.field-0 c.requires.rooms at c.in_default.is

pub returns-clause-rooms : goal.returns-clause-rooms
returns-clause-rooms c =
    let t = c.args.self.now in
    let s = c.index-span.result.now in
    let inside : c.args.place < length t.spans.items = omega (arith, c.requires.there, length-map t.spans.items (room_in t.block.items)) in
    let at = slice_get_read t.spans.items (length t.spans.items) c.args.place s refl inside c.index-span.ensures in
    let start : c.len-start.result ≡ length t.block.items = c.len-start.ensures ∙ t.block.ok.0 in
    let e = grown t.block.items c.resize.new.self.items c.len-start.result s.size start (c.in-Ok.ensures.items ∙ ap (λ (n : ℕ). take (c.len-start.result + s.size) t.block.items ++ replicate (c.len-start.result + s.size - n) empty) t.block.ok.0) in
    are_same
    (are_opened (length t.block.items) (vec_capacity t.block) (vec_capacity c.resize.new.self) t.spans.items t.owed c.args.place s c.requires.rooms at c.in-None.is c.in-Ok.ensures.capacity)
    (ap length e ∙ length-append t.block.items (replicate s.size empty) ∙ ap (λ (n : ℕ). length t.block.items + n) (length-replicate s.size empty))
    (ap (λ (n : ℕ). let x : RoomRange = record { size = s.size; start = Some n } in set t.spans.items c.args.place x) start)
    refl

pub returns-clause-opened : goal.returns-clause-opened
returns-clause-opened c =
    let t = c.args.self.now in
    let s = c.index-span.result.now in
    let inside : c.args.place < length t.spans.items = omega (arith, c.requires.there, length-map t.spans.items (room_in t.block.items)) in
    let at = slice_get_read t.spans.items (length t.spans.items) c.args.place s refl inside c.index-span.ensures in
    let start : c.len-start.result ≡ length t.block.items = c.len-start.ensures ∙ t.block.ok.0 in
    let e = grown t.block.items c.resize.new.self.items c.len-start.result s.size start (c.in-Ok.ensures.items ∙ ap (λ (n : ℕ). take (c.len-start.result + s.size) t.block.items ++ replicate (c.len-start.result + s.size - n) empty) t.block.ok.0) in
    let opened = is_opened t.block.items (replicate s.size empty) (vec_capacity t.block) t.spans.items t.owed c.args.place s c.requires.rooms at (length-replicate s.size empty) in
    let spans : List RoomRange = let x : RoomRange = record { size = s.size; start = Some c.len-start.result } in set t.spans.items c.args.place x in
    subst (λ (block : List Frag). IsOpened (map (room_in t.block.items) t.spans.items) c.args.place (map (room_in block) spans)) (sym e)
    (subst (λ (n : ℕ). let x : RoomRange = record { size = s.size; start = Some n } in
    IsOpened (map (room_in t.block.items) t.spans.items) c.args.place (map (room_in (t.block.items ++ replicate s.size empty)) (set t.spans.items c.args.place x))) (sym start) opened)
