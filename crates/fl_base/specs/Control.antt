-- The control word of a fragment, a number below 2 ^ 64.
--
--   bit 0         epoch: 1 in the first round of a ring, 0 in the second, and so on
--   bit 1         this is the first fragment of its call
--   bit 2         this fragment only acknowledges
--   bits 3 to 15  reserved, zero
--   bits 16 to 31 message number
--   bits 32 to 47 circuit
--   bits 48 to 63 how many fragments of the other direction its writer has read, modulo 65,536
use Rattle.std.specs.Prelude.{ℕ, ◌+◌, ◌-◌, ◌*◌, ◌/◌, ◌%◌, ◌^◌, ◌==◌, ◌&&◌, Bool, if◌then◌else◌}
use Rattle.std.specs.List.{list_all}
use Rattle.fl_base.specs.declared.fragment.Frag.{Frag}

abbrev pub epoch_of : ℕ → ℕ
epoch_of word = word % 2

abbrev pub first_of : ℕ → Bool
first_of word = word / 2 % 2 == 1

abbrev pub acknowledges_of : ℕ → Bool
acknowledges_of word = word / 4 % 2 == 1

abbrev pub reserved_of : ℕ → ℕ
reserved_of word = word / 8 % 8192

abbrev pub message_of : ℕ → ℕ
message_of word = word / 65536 % 65536

abbrev pub circuit_of : ℕ → ℕ
circuit_of word = word / 2 ^ 32 % 65536

abbrev pub told_of : ℕ → ℕ
told_of word = word / 2 ^ 48

-- the control word of a call's fragment, with epoch 0 and nothing told
abbrev pub control_word : Bool → ℕ → ℕ → ℕ
control_word first message circuit = (if first then 2 else 0) + 65536 * message + 2 ^ 32 * circuit

-- a fragment that only acknowledges: bit 2 is set, bits 1 and 3 to 47 and all payload words are 0
abbrev pub is_ack_only : Frag → Bool
is_ack_only frag = (frag.control / 2 % 2 ^ 47 == 2) && list_all (λ w. w == 0) frag.words

-- what the fields of a control word hold
pub record Fields : Type 0 where
  pub epoch : ℕ
  pub first : Bool
  pub acknowledges : Bool
  pub reserved : ℕ
  pub message : ℕ
  pub circuit : ℕ
  pub told : ℕ

abbrev pub fields_of : ℕ → Fields
fields_of word = record {
  epoch = epoch_of word;
  first = first_of word;
  acknowledges = acknowledges_of word;
  reserved = reserved_of word;
  message = message_of word;
  circuit = circuit_of word;
  told = told_of word;
}

-- the fragment with this circuit
abbrev pub with_circuit : ℕ → Frag → Frag
with_circuit circuit frag = record { words = frag.words; control = frag.control - 2 ^ 32 * circuit_of frag.control + 2 ^ 32 * circuit }

-- ---- what a link writes, and what it leaves alone
--
-- A link sets the epoch (bit 0) and the count told (bits 48 to 63). Bits 1 to 47, the body, and the payload words pass
-- through it unchanged.

-- bits 1 to 47 of a control word
abbrev pub body : ℕ → ℕ
body word = 2 * (word / 2 % 2 ^ 47)

-- the fragment with epoch 0 and nothing told: what every link carries unchanged
abbrev pub bare : Frag → Frag
bare frag = record { words = frag.words; control = body frag.control }

-- the fragment as it stands in a link: in a round of this epoch, telling this 16-bit number
abbrev pub stamped : Frag → ℕ → ℕ → Frag
stamped frag epoch number = record { words = frag.words; control = body frag.control + epoch + 2 ^ 48 * number }
