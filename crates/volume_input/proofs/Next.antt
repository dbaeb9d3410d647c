-- One segment: what was read for it, and what became of that.
use Rattle.std.proofs.Common.{◌≡◌, ◌⊎◌, inl, inr, ℕ, ◌+◌, ◌-◌, ◌*◌, ◌/◌, ◌<◌, ◌≤◌, min, Bool, true, List, [], ◌∷◌, length, take, All, refl}
use Rattle.std.proofs.Common.{sym, ap, ◌∙◌, subst, arith, append-nil}
use Rattle.std.proofs.lemmas.List.Elements.{All-nil, All-head, All-tail, All-append, All-take}
use Rattle.qic_base.specs.Tape.{Rose}
use Rattle.qic_base.proofs.Steps.{Done-nothing}
use Rattle.qic_base.specs.Acts.{SourceFails, Went, Cut}
use Rattle.qic_base.specs.Alone.{no_sink, reading}
use Rattle.cartridge_laws.specs.Shape.{Carries}
use Rattle.cartridge_spec.specs.Shape.{mask_at, data_count, capacity}
use Rattle.cartridge_laws.specs.Writes.{segment_writes}
use Rattle.cartridge_spec.specs.Appending.{in_sectors, part_writes}
use Rattle.cartridge_spec.specs.Volumes.{bytes_in}
use Rattle.cartridge_laws.proofs.AppendBytes.{carried_all, bytes_of_sectors}
use Rattle.qic_base.specs.Cartridge.{IsSector}
use Rattle.sector_fill.specs.Filling.{GaveUpTo, GaveWithin, AreFilled}
use Rattle.command_spec.specs.Append.{segment_act}
use Rattle.volume_input.proofs.Places.{data_most}
use Rattle.volume_input.specs.Next.{Came, NextWritten, NextBroken, CameShort}
use Rattle.qic_base.specs.Source as sources
use Rattle.qic_base.specs.Tape as tapes

-- the sectors of data, by the bytes that they hold
data_sectors : (words : List ℕ) (s n : ℕ) → Carries (mask_at words s) → n ≡ capacity (mask_at words s) →
    n / 1024 ≡ data_count (mask_at words s)
data_sectors words s n carry is =
    let all : n ≡ 1024 * data_count (mask_at words s) = is ∙ carried_all words s carry in
    omega arith

-- they are no more than the usable sectors but those of parity
pub sectors_most : (words : List ℕ) (s n : ℕ) → Carries (mask_at words s) → n ≡ capacity (mask_at words s) → n / 1024 ≤ 29
sectors_most words s n carry is = omega (arith, data_sectors words s n carry is, data_most words s)

-- the writes of a segment are those of its act
same_writes : (words : List ℕ) (s count usable : ℕ) (sectors : List (List ℕ)) (bytes : List ℕ) → count ≡ data_count (mask_at words s) →
    usable ≡ mask_at words s →
    take count sectors ≡ in_sectors count bytes → segment_writes s usable sectors ≡ (segment_act words s bytes).steps
same_writes words s count usable sectors bytes all is filled =
    ap (λ (mask : ℕ). segment_writes s mask sectors) is
    ∙ ap (λ (n : ℕ). part_writes words (record { segment = s; sectors = take n sectors })) (sym all)
    ∙ ap (λ (data_part : List (List ℕ)). part_writes words (record { segment = s; sectors = data_part })) filled
    ∙ ap (λ (n : ℕ). part_writes words (record { segment = s; sectors = in_sectors n bytes })) all

-- bytes that stand in sectors are bytes
bytes_of_each : (sectors : List (List ℕ)) → All IsSector sectors → All (λ (x : ℕ). x < 256) (bytes_in sectors)
bytes_of_each [] are = All-nil (λ (x : ℕ). x < 256)
bytes_of_each (sector ∷ sectors) are =
    All-append (λ (x : ℕ). x < 256) sector (bytes_in sectors) (All-head IsSector sector sectors are).each
    (bytes_of_each sectors (All-tail IsSector sector sectors are))

are_bytes : (count : ℕ) (sectors : List (List ℕ)) (bytes : List ℕ) → All IsSector sectors → length bytes ≤ 1024 * count →
    take count sectors ≡ in_sectors count bytes → All (λ (x : ℕ). x < 256) bytes
are_bytes count sectors bytes are within filled =
    subst (All (λ (x : ℕ). x < 256))
    (ap (λ (ss : List (List ℕ)). take (length bytes) (bytes_in ss)) filled ∙ bytes_of_sectors count bytes within)
    (All-take (λ (x : ℕ). x < 256) (length bytes) (bytes_in (take count sectors))
    (bytes_of_each (take count sectors) (All-take IsSector count sectors are)))

module _ {T S : Type 0} (t : tapes.Meaning T) (s : sources.Meaning S) (x y : T) (a b : S) (later : s.faults a ≤ s.faults b) where
  -- nothing was written
  nothing : s.faults b ≡ s.faults a → Went t s no_sink (reading x a) (reading x b) []
  nothing stood = record { did = Done-nothing t x; wrote = record { took = refl; later = omega arith }; source_later = stood }

  source_cut : Rose (s.faults a) (s.faults b) → Cut t s no_sink (reading x a) (reading x b) [] SourceFails
  source_cut rose = record {
    front = [];
    rest = [];
    parts = refl;
    did = Done-nothing t x;
    wrote = record { took = refl; later = omega arith };
    cause = rose;
    source_later = later;
  }

  module _ (words : List ℕ) (segment before most n : ℕ) (exact : Bool) (here : Carries (mask_at words segment))
      (is : n ≡ capacity (mask_at words segment)) where
    room : 1024 * (n / 1024) ≡ capacity (mask_at words segment)
    room =
        let count : n / 1024 ≡ data_count (mask_at words segment) = data_sectors words segment n here is in
        let all = carried_all words segment here in
        omega arith

    up_to : (bytes : List ℕ) → GaveUpTo s a b (1024 * (n / 1024)) (most - before) bytes → GaveUpTo s a b (capacity (mask_at words segment))
        (most - before) bytes
    up_to bytes gave = subst (λ (r : ℕ). GaveUpTo s a b r (most - before) bytes) room gave

    pub source_fault : Rose (s.faults a) (s.faults b) → GaveWithin s a b (1024 * (n / 1024)) (most - before) →
        GaveWithin s a b (capacity (mask_at words segment)) (most - before) × Cut t s no_sink (reading x a) (reading x b) [] SourceFails
    source_fault rose gave = (
      subst (λ (r : ℕ). GaveWithin s a b r (most - before)) room gave,
      source_cut rose,
    )

    module _ (stood : s.faults b ≡ s.faults a) (read : ℕ) (sectors : List (List ℕ)) (are : All IsSector sectors)
        (filled : AreFilled s a b (n / 1024) (most - before) (take (n / 1024) sectors) read) where
      content : All (λ (e : ℕ). e < 256) filled.0
      content = are_bytes (n / 1024) sectors filled.0 are filled.2.fits filled.3

      pub came_short : exact ≡ true → read < min n (most - before) →
          CameShort t s words segment before most exact (reading x a) (reading x b) (before + read)
      came_short asked less = record {
        bytes = filled.0;
        content = content;
        took = up_to filled.0 filled.2;
        is_exact = asked;
        short = (let long = filled.1 in omega arith);
        went = nothing stood;
        count = ap (λ (k : ℕ). before + k) (sym filled.1);
      }

      module _ (enough : exact ≡ true → min n (most - before) ≤ read) where
        whole : exact ≡ true → length filled.0 ≡ min (capacity (mask_at words segment)) (most - before)
        whole asked =
            let took = up_to filled.0 filled.2 in
            let long : length filled.0 ≡ read = filled.1 in
            let least : min n (most - before) ≤ read = enough asked in
            let fits : length filled.0 ≤ capacity (mask_at words segment) = took.fits in
            let within : length filled.0 ≤ most - before = took.within in
            omega arith

        came : (before ≡ 0) ⊎ (1 ≤ read) → Came s words segment before most exact a b filled.0
        came some = record { content = content; took = up_to filled.0 filled.2; whole = whole; some = some_of some }
          where
            some_of : (before ≡ 0) ⊎ (1 ≤ read) → (before ≡ 0) ⊎ (1 ≤ length filled.0)
            some_of (inl first) = inl first
            some_of (inr more) = inr (let long = filled.1 in omega arith)

        steps : (usable : ℕ) → usable ≡ mask_at words segment →
            segment_writes segment usable sectors ≡ (segment_act words segment filled.0).steps
        steps usable same = same_writes words segment (n / 1024) usable sectors filled.0
            (data_sectors words segment n here is) same filled.3

        pub next_written : (usable : ℕ) → usable ≡ mask_at words segment → (before ≡ 0) ⊎ (1 ≤ read) →
            tapes.Done t x y (segment_writes segment usable sectors) →
            NextWritten t s words segment before most exact (reading x a) (reading y b) read
        next_written usable same some did = record {
          bytes = filled.0;
          came = came some;
          went = record {
            did = subst (tapes.Done t x y) (steps usable same ∙ sym (append-nil (segment_act words segment filled.0).steps)) did;
            wrote = record { took = refl; later = omega arith };
            source_later = stood;
          };
          count = sym filled.1;
        }

        pub next_broken : (usable : ℕ) → usable ≡ mask_at words segment → (before ≡ 0) ⊎ (1 ≤ read) →
            tapes.Broke t x y (segment_writes segment usable sectors) →
            NextBroken t s words segment before most exact (reading x a) (reading y b)
        next_broken usable same some broke =
            let broken : tapes.Broke t x y (segment_act words segment filled.0).steps = subst (tapes.Broke t x y)
            (steps usable same) broke in
            record {
              bytes = filled.0;
              came = came some;
              cut = record {
                front = [];
                rest = segment_act words segment filled.0 ∷ [];
                parts = refl;
                broke = broken;
                here = broken.torn;
                wrote = record { took = refl; later = omega arith };
                source_later = stood;
              };
            }
