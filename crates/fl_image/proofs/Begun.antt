-- What had been read where memory ran out.
use Rattle.std.proofs.Common.{◌≡◌, ℕ, List, ◌++◌, length, inl, Ok, refl, ap, ◌∙◌, append_assoc}
use Rattle.std.specs.List.{flat_map}
use Rattle.fl_interface.specs.Interface.{TheInterface}
use Rattle.fl_value_data.specs.declared.value.PlanNo.{PlanNo}
use Rattle.fl_image.specs.declared.fault.ImageFault.{ImageFault}
use Rattle.fl_image.specs.declared.fault.ImageFault.TheVariants as faults
use Rattle.fl_image.specs.Image.{two, name_image, message_image, codes_image, magic, version_of, Fields}
use Rattle.fl_image.specs.Reading.{◌>>=◌, Read, Fails, IsOfBytes, Behind, name_at, messages_at, interface_at, magic_at, plan_at, start_at, all_of}
use Rattle.fl_image.specs.Outcome.{BeginsAsImage, Answers}
use Rattle.fl_image.proofs.ReadBack.{IsBytes, bind_ok}
use Rattle.fl_image.proofs.Numbers.{name_law}
use Rattle.fl_image.proofs.WholeLaws.{magic_law, plan_law, all_takes}

abbrev IsRead : {A : Type 0} → Read A → Type 0
IsRead {A} read = (x : A × List ℕ) × (read ≡ Ok x)

pub of_bytes : {A : Type 0} (e : ImageFault) (read : Read A) → IsOfBytes e → Behind e read
of_bytes faults.Memory read h = absurd h
of_bytes (faults.Refused r) read h = tt

pub was_read : {A : Type 0} (e : ImageFault) (read : Read A) (x : A × List ℕ) → read ≡ Ok x → Behind e read
was_read faults.Memory read x h = (x, h)
was_read (faults.Refused r) read x h = tt

-- the same value by other words
pub behind_same : {A : Type 0} (e : ImageFault) (first second : Read A) → first ≡ second → Behind e second → Behind e first
behind_same faults.Memory first second s h = (h.0, s ∙ h.1)
behind_same (faults.Refused r) first second s h = tt

-- an interface that was read has a name
pub named : (e : ImageFault) (bytes : List ℕ) (x : TheInterface × List ℕ) → interface_at bytes ≡ Ok x → Behind e (name_at bytes)
unfolding interface_at
named e bytes x h =
    let s = bind_ok (name_at bytes) (λ name. messages_at name.1 >>= λ messages. Ok (record { name = name.0; messages = messages.0 }, messages.1)) x h in
    was_read e (name_at bytes) s.0 s.1

-- behind the magic and the version the start is the name
pub started : (e : ImageFault) (bytes : List ℕ) (behind_magic : List ℕ) (plan : PlanNo) (behind_plan : List ℕ) → magic_at bytes ≡ Ok (tt, behind_magic) → plan_at behind_magic ≡ Ok (plan, behind_plan)
    → Behind e (name_at behind_plan) → Behind e (start_at bytes)
unfolding start_at
started e bytes behind_magic plan behind_plan m p h = behind_same e (start_at bytes) (name_at behind_plan) (rw (m, p) refl) h

begun : (bytes : List ℕ) → IsBytes bytes → IsRead (start_at bytes) → BeginsAsImage bytes
unfolding start_at
begun bytes h (x, e) =
    let s = bind_ok (magic_at bytes) (λ start. plan_at start.1 >>= λ plan. name_at plan.1) x e in
    let a = magic_law.takes bytes s.0.0 s.0.1 h s.1 in
    let t = bind_ok (plan_at s.0.1) (λ plan. name_at plan.1) x s.2 in
    let b = plan_law.takes s.0.1 t.0.0 t.0.1 a.0.rest_fits t.1 in
    let c = name_law.takes t.0.1 x.0 x.1 b.0.rest_fits t.2 in
    record {
      plan = t.0.0;
      name = x.0;
      rest = x.1;
      is_named = c.1;
      spelled = a.0.parts ∙ ap (λ (r : List ℕ). magic ++ r) (b.0.parts ∙ ap (λ (r : List ℕ). two (version_of t.0.0) ++ r) c.0.parts);
    }

pub answers : (bytes : List ℕ) (e : ImageFault) → IsBytes bytes → Fails e (all_of bytes) → Behind e (start_at bytes) → Answers e bytes
answers bytes faults.Memory h f b = begun bytes h b
answers bytes (faults.Refused r) h f b = inl f

-- all fields were read, so the start was
pub all_begun : (bytes : List ℕ) (f : Fields) → IsBytes bytes → all_of bytes ≡ Ok f → BeginsAsImage bytes
all_begun bytes f h e =
    let x = all_takes bytes f h e in
    record {
      plan = f.plan;
      name = f.interface.name;
      rest = (two (length f.interface.messages) ++ flat_map message_image f.interface.messages) ++ flat_map codes_image f.codes;
      is_named = x.1.interface.name;
      spelled = x.0
          ∙ ap (λ (r : List ℕ). magic ++ (two (version_of f.plan) ++ r))
          (append_assoc (name_image f.interface.name) (two (length f.interface.messages) ++ flat_map message_image f.interface.messages) (flat_map codes_image f.codes));
    }
