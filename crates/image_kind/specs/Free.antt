-- Files that hold no image and may be taken for one to be made: what a making of one leaves that was stopped (this project's own).
use Rattle.std.specs.Prelude.{ℕ, ◌-◌, ◌*◌, ◌/◌, ◌%◌, Bool, ◌&&◌, ◌||◌, ◌==◌, nat_le, List, length, take, slice_index}
use Rattle.qic_base.specs.declared.TheConstants.{LONGEST}
use Rattle.cart_image.specs.Layout.{cells_len, head_len, signature}

-- Segments behind the head: none; some or all of a cartridge's, as an import has them that was stopped; or twice those of a
-- cartridge, as an image has that was upgraded.
abbrev pub is_segments : (count : ℕ) → Bool
is_segments count = nat_le count (28 * LONGEST) || (count % 56 == 0 && nat_le count (56 * LONGEST))

-- a length that a stop leaves
unfoldable pub is_stopped_len : (len : ℕ) → Bool
is_stopped_len len =
    nat_le head_len len && ((len - head_len) % cells_len == 0 && is_segments ((len - head_len) / cells_len))

-- a byte of the head that was not written, or was
abbrev pub is_part : (byte letter : ℕ) → Bool
is_part byte letter = byte == 0 || byte == letter

abbrev pub is_part_at : (head : List ℕ) (place : ℕ) → Bool
is_part_at head place = is_part (slice_index head place) (slice_index signature place)

-- The first byte is zero, and each of the seven behind it is zero or the signature's.
unfoldable pub is_unsigned : (head : List ℕ) → Bool
is_unsigned head =
    slice_index head 0 == 0 && (is_part_at head 1 && (is_part_at head 2 && (is_part_at head 3 && (is_part_at head 4
    && (is_part_at head 5 && (is_part_at head 6 && is_part_at head 7))))))

-- a file of this length that begins with these eight bytes
abbrev pub free_by : (len : ℕ) (head : List ℕ) → Bool
free_by len head = len == 0 || (is_stopped_len len && is_unsigned head)

-- The file is empty, or it has such a length and such a head.
unfoldable pub is_free : List ℕ → Bool
is_free bytes = free_by (length bytes) (take 8 bytes)
