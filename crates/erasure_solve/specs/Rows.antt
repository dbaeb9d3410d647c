-- Rows of 1,024 bytes, one of each column of a segment.
use Rattle.std.specs.Prelude.{◌≡◌, ℕ, ◌+◌, ◌<◌, List, length, map, slice_index, bit_xor}
use Rattle.std.specs.List.{range_with_len}
use Rattle.cartridge_spec.specs.Code.{product, power, value_at, column}
use Rattle.erasure_solve.specs.declared.values.Strip.{Strip}
use Rattle.erasure_solve.specs.declared.values.Values.{Values}

pub record IsZero (row : List ℕ) : Type 0 where
  pub each : (j : ℕ) → j < 1024 → slice_index row j ≡ 0

-- the columns' values at a root
pub record HasValues (root : ℕ) (row : List ℕ) (sectors : List (List ℕ)) : Type 0 where
  pub each : (j : ℕ) → j < 1024 → slice_index row j ≡ value_at root (column j sectors)

-- at the three roots; that at 0xC3 is `scale` times what is kept
pub record AreValues (values : Values) (sectors : List (List ℕ)) : Type 0 where
  pub bytes : (j : ℕ) → j < 1024 → slice_index values.reversed j < 256
  pub scale : values.scale < 256
  pub at_inverse : (j : ℕ) → j < 1024 →
      product values.scale (slice_index values.reversed j) ≡ value_at 0xC3 (column j sectors)
  pub at_one : HasValues 0x01 values.at_one sectors
  pub at_generator : HasValues 0x02 values.at_generator sectors

pub record AreZero (values : Values) : Type 0 where
  pub reversed : IsZero values.reversed
  pub at_one : IsZero values.at_one
  pub at_generator : IsZero values.at_generator

-- what is gathered of 128 columns: the values of the sectors `front` at 1 and 0x02, and the sum of d_i * 2^i
-- over the bytes d_0 to d_(n-1) of the sectors `back`, which is 2^(n-1) times their value at 0xC3
pub record IsStrip (strip : Strip) (start : ℕ) (front back : List (List ℕ)) : Type 0 where
  pub bytes : (j : ℕ) → j < 128 → slice_index strip.reversed j < 256
  pub reversed : (j : ℕ) → j < 128 → product (slice_index strip.reversed j) 0x02
      ≡ product (value_at 0xC3 (column (start + j) back)) (power 0x02 (length back))
  pub at_one : (j : ℕ) → j < 128 → slice_index strip.at_one j ≡ value_at 0x01 (column (start + j) front)
  pub at_generator : (j : ℕ) → j < 128 → slice_index strip.at_generator j ≡ value_at 0x02 (column (start + j) front)

-- one sector further from the front, and one from the end
pub record AddsToStrip (old : Strip) (start : ℕ) (sector from_end : List ℕ) (new : Strip) : Type 0 where
  pub reversed : (j : ℕ) → j < 128 → slice_index new.reversed j
      ≡ bit_xor (product (slice_index old.reversed j) 0x02) (slice_index from_end (start + j))
  pub at_one : (j : ℕ) → j < 128 → slice_index new.at_one j
      ≡ bit_xor (slice_index old.at_one j) (slice_index sector (start + j))
  pub at_generator : (j : ℕ) → j < 128 → slice_index new.at_generator j
      ≡ bit_xor (product (slice_index old.at_generator j) 0x02) (slice_index sector (start + j))

-- 128 bytes of a row were put in their place, and those before it are as they were
pub record PutsPart (byte : ℕ → ℕ) (start : ℕ) (old new : List ℕ) : Type 0 where
  pub part : (j : ℕ) → j < 128 → slice_index new (start + j) ≡ byte j
  pub before : (k : ℕ) → k < start → slice_index new k ≡ slice_index old k

-- what is gathered of a strip's columns was put in its place
pub record PutsStrip (old : Values) (strip : Strip) (start : ℕ) (new : Values) : Type 0 where
  pub scale : new.scale ≡ old.scale
  pub reversed : PutsPart (slice_index strip.reversed) start old.reversed new.reversed
  pub at_one : PutsPart (slice_index strip.at_one) start old.at_one new.at_one
  pub at_generator : PutsPart (slice_index strip.at_generator) start old.at_generator new.at_generator

-- the sum of three bytes, each times its factor
unfoldable pub weighed_sum : ℕ → ℕ → ℕ → ℕ → ℕ → ℕ → ℕ
weighed_sum p q r a b c = bit_xor (bit_xor (product p a) (product q b)) (product r c)

-- that of a column's bytes in the three rows
abbrev pub weighed_by : ℕ → ℕ → ℕ → Values → ℕ → ℕ
weighed_by p q r values j =
    weighed_sum p q r (slice_index values.reversed j) (slice_index values.at_one j) (slice_index values.at_generator j)

-- the values of column j, each times its factor
abbrev pub weighed_byte : Values → List ℕ → ℕ → ℕ
weighed_byte values factors =
    weighed_by (product (slice_index factors 0) values.scale) (slice_index factors 1) (slice_index factors 2) values

-- that of each column
unfoldable pub weighed_row : Values → List ℕ → List ℕ
weighed_row values factors = map (weighed_byte values factors) (range_with_len 0 1024)

-- the values of each column were made what is added to its bytes at three places: the first two by their
-- factors, and the third so that the three add up to the value at 1; they stand in the rows of the values
pub record Corrects (values : Values) (first second : List ℕ) (rows : Values) : Type 0 where
  pub at_first : (j : ℕ) → j < 1024 → slice_index rows.reversed j ≡ weighed_byte values first j
  pub at_second : (j : ℕ) → j < 1024 → slice_index rows.at_one j ≡ weighed_byte values second j
  pub at_third : (j : ℕ) → j < 1024 → slice_index rows.at_generator j
      ≡ bit_xor (bit_xor (weighed_byte values first j) (weighed_byte values second j)) (slice_index values.at_one j)

-- the sum of a sector and a row
pub record AddsRow (row old new : List ℕ) : Type 0 where
  pub size : length new ≡ 1024
  pub each : (j : ℕ) → j < 1024 → slice_index new j ≡ bit_xor (slice_index old j) (slice_index row j)
