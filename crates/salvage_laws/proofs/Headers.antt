-- The header that is found in the dump of a cartridge.
use Rattle.std.proofs.Common.{◌≡◌, inl, inr, ℕ, ◌-◌, ◌<◌, Bool, true, false, List, length, take, Option, Some, None, refl}
use Rattle.std.proofs.Common.{sym, ap}
use Rattle.std.proofs.Common.{subst, ◌∙◌, arith}
use Rattle.std.proofs.lemmas.Bool.{cases_lt, cases_eq}
use Rattle.std.specs.Option.{option_map}
use Rattle.cartridge_laws.proofs.ChangeStanding.{CellsAlike, turned, in_force}
use Rattle.cartridge_laws.proofs.Segments.{length-whole_cells}
use Rattle.cartridge_laws.specs.HeaderTerms.{IsInForce}
use Rattle.cartridge_spec.specs.Header.{has_signature}
use Rattle.cartridge_spec.specs.HeaderCopies.{CopyReads, copy_cells, HasHeader}
use Rattle.cartridge_spec.specs.Says.{Says, Data, cells_of, whole_mask, HasBlock}
use Rattle.flat_dump.proofs.Bytes.{dump_is_whole}
use Rattle.flat_dump.proofs.Standing.{reads_alike, cells_alike}
use Rattle.flat_dump.specs.Dump.{dump_of}
use Rattle.flat_dump.specs.Imported.{brought_back}
use Rattle.qic_base.specs.Cartridge.{Cartridge}
use Rattle.qic_base.specs.CartridgeTerms.{IsCartridge}
use Rattle.qic_base.specs.declared.tape.SectorView.{SectorView}
use Rattle.silent_locate.proofs.Readings.{one_deep_reading, deep_by_readable}
use Rattle.silent_locate.specs.Deep.{Deep}
use Rattle.silent_locate.specs.Laws.{ReadAlike}
use Rattle.dump_spec.specs.Answers.{IsKnown, Known}
use Rattle.dump_spec.specs.Dump.{Dump}
use Rattle.dump_spec.specs.HeaderPlace.{FoundHeader, IsHeader, IsHeaderIn, ReadsByCode}
use Rattle.dump_spec.specs.Pieces.{Layout}
use Rattle.dump_spec.specs.declared.asked.Command.{Command}
use Rattle.salvage_laws.proofs.Views.{AreViews, known_views, known_layout, plain_layout, cells_as, piece_is_there}
use Rattle.salvage_laws.specs.CellLaws.{HeaderIsInForce}
use Rattle.salvage_laws.specs.Exported.{exported, plainly, HidesNoOther}

-- ---- cells that are read alike

-- those of a segment without a bad sector, on the cartridge and as it is brought back
back_alike : (c : Cartridge) (s : ℕ) → CellsAlike (cells_of c s whole_mask) (cells_of (brought_back c) s whole_mask)
back_alike c s = cells_alike c (brought_back c) s (reads_alike c)

read_alike : (xs ys : List SectorView) → CellsAlike xs ys → ReadAlike xs ys
read_alike xs ys alike = record { size = alike.long; each = λ i bytes. (alike.no_less i bytes, alike.no_more i bytes) }

-- ---- one segment

data_of_32 : (block area : List (List ℕ)) → length block ≡ 32 → area ≡ take (length block - 3) block → area ≡ take 29 block
data_of_32 block area long shown = shown ∙ ap (λ (n : ℕ). take (n - 3) block) long

-- a segment that says data reads as them
reads_code : (c : Cartridge) (s : ℕ) (area : List (List ℕ)) → Says (cells_of c s whole_mask) (Data area) →
    ReadsByCode false (cells_of c s whole_mask) area
reads_code c s area says =
    let has : HasBlock (cells_of c s whole_mask) area = says.1 in
    record {
      counted = cells_of c s whole_mask;
      counts = refl;
      block = has.block;
      wrong = None;
      deep = record { few = says.0; code = has.code; agrees = has.agrees };
      shown = data_of_32 has.block area (has.agrees.size ∙ length-whole_cells c s) has.shown;
    }

-- and as no others
one_area : (c : Cartridge) (s : ℕ) (area other : List (List ℕ)) → ReadsByCode false (cells_of c s whole_mask) area →
    ReadsByCode false (cells_of c s whole_mask) other → other ≡ area
one_area c s area other a b =
    let cells : List SectorView = cells_of c s whole_mask in
    let deep : Deep cells a.block a.wrong = subst (λ (x : List SectorView). Deep x a.block a.wrong) a.counts a.deep in
    let again : Deep cells b.block b.wrong = subst (λ (x : List SectorView). Deep x b.block b.wrong) b.counts b.deep in
    b.shown ∙ ap (take 29) (one_deep_reading cells b.block a.block b.wrong a.wrong again deep).0 ∙ sym a.shown

-- ---- a dump

-- what is known of a dump and the cartridge that it is of
pub record IsOf (c : Cartridge) (dump : Dump) : Type 0 where
  pub whole : IsCartridge c
  pub bytes : dump.bytes ≡ dump_of c
  pub views : AreViews c dump

header_in : (c : Cartridge) (dump : Dump) (masks : ℕ → ℕ) (s : ℕ) (area : List (List ℕ)) → IsOf c dump → s < 3 →
    CopyReads (brought_back c) s area → IsHeaderIn dump (plain_layout masks) false s area
header_in c dump masks s area of low reads =
    let short = of.whole.long.shortest in
    let cells = cells_as c dump (λ (k : ℕ). whole_mask) s of.whole of.bytes of.views (omega arith) in
    record {
      there = piece_is_there dump (λ (k : ℕ). whole_mask) s c.info.segments_per_track (ap length of.bytes ∙ dump_is_whole c of.whole)
          of.whole.long.longest (omega arith);
      reads = subst (λ (x : List SectorView). ReadsByCode false x area) (sym cells) (reads_code (brought_back c) s area reads.says);
      signature = reads.signature;
    }

code_in : (c : Cartridge) (dump : Dump) (masks : ℕ → ℕ) (s : ℕ) (area : List (List ℕ)) → IsOf c dump → s < 3 →
    IsHeaderIn dump (plain_layout masks) false s area → ReadsByCode false (copy_cells (brought_back c) s) area
code_in c dump masks s area of low header =
    let short = of.whole.long.shortest in
    subst (λ (x : List SectorView). ReadsByCode false x area)
    (cells_as c dump (λ (k : ℕ). whole_mask) s of.whole of.bytes of.views (omega arith)) header.reads

-- ---- the first header

-- a header that is found in copy 0 where that doesn't read is the one in force
hidden_is : (c : Cartridge) (area other : List (List ℕ)) → HasHeader c area → HidesNoOther c →
    ((any : List (List ℕ)) → CopyReads (brought_back c) 0 any → ⊥) → ReadsByCode false (copy_cells (brought_back c) 0) other →
    has_signature other ≡ true → other ≡ area
hidden_is c area other has hides not_read reads signature = by_wrong reads.wrong deep where
  cells : List SectorView
  cells = copy_cells (brought_back c) 0

  deep : Deep (copy_cells (brought_back c) 0) reads.block reads.wrong
  deep = subst (λ (x : List SectorView). Deep x reads.block reads.wrong) reads.counts reads.deep

  signed : has_signature (take 29 reads.block) ≡ true
  signed = subst (λ (x : List (List ℕ)). has_signature x ≡ true) reads.shown signature

  by_wrong : (wrong : Option ℕ) → Deep (copy_cells (brought_back c) 0) reads.block wrong → other ≡ area
  by_wrong None right = absurd (not_read other (record {
    says = (
      right.few,
      record {
        block = reads.block;
        code = right.code;
        agrees = right.agrees;
        shown = reads.shown ∙ ap (λ (n : ℕ). take (n - 3) reads.block) (sym (right.agrees.size ∙ length-whole_cells (brought_back c) 0));
      },
    );
    signature = signature;
  }))
  by_wrong (Some place) wrong =
      reads.shown
      ∙ hides area reads.block place has
      (deep_by_readable (copy_cells (brought_back c) 0) (copy_cells c 0) reads.block (Some place)
      (read_alike (copy_cells (brought_back c) 0) (copy_cells c 0) (turned (back_alike c 0))) wrong) signed

found_is : (c : Cartridge) (dump : Dump) (masks : ℕ → ℕ) (area : List (List ℕ)) (found : Option FoundHeader) → IsOf c dump →
    HasHeader c area → HidesNoOther c → IsInForce (brought_back c) area → IsHeader None dump (plain_layout masks) false found →
    option_map (λ header. header.area) found ≡ Some area
found_is c dump masks area None of has hides (inl reads) is =
    absurd (is (λ form. refl) 0 area (omega arith) (header_in c dump masks 0 area of (omega arith) reads))
found_is c dump masks area None of has hides (inr (not, reads)) is =
    absurd (is (λ form. refl) 1 area (omega arith) (header_in c dump masks 1 area of (omega arith) reads))
found_is c dump masks area (Some found) of has hides (inl reads) is =
    let first = is.2 in
    ap Some (elim (cases_lt 0 is.0) [
      | inl later ↦ absurd (first.before 0 area later (header_in c dump masks 0 area of (omega arith) reads))
      | inr at ↦
          let none : is.0 ≡ 0 = omega arith in
          one_area (brought_back c) 0 area found.area (reads_code (brought_back c) 0 area reads.says)
          (code_in c dump masks 0 found.area of (omega arith)
          (subst (λ (s : ℕ). IsHeaderIn dump (plain_layout masks) false s found.area) none first.here))
    ])
found_is c dump masks area (Some found) of has hides (inr (not, reads)) is =
    let first = is.2 in
    ap Some (elim (cases_lt 1 is.0) [
      | inl later ↦ absurd (first.before 1 area later (header_in c dump masks 1 area of (omega arith) reads))
      | inr at ↦ elim (cases_eq is.0 0) [
        | inl none ↦
            let there : IsHeaderIn dump (plain_layout masks) false 0 found.area =
            subst (λ (s : ℕ). IsHeaderIn dump (plain_layout masks) false s found.area) none first.here in
            hidden_is c area found.area has hides not (code_in c dump masks 0 found.area of (omega arith) there) there.signature
        | inr some ↦
            let one : is.0 ≡ 1 = omega (arith, some) in
            one_area (brought_back c) 1 area found.area (reads_code (brought_back c) 1 area reads.says)
            (code_in c dump masks 1 found.area of (omega arith)
            (subst (λ (s : ℕ). IsHeaderIn dump (plain_layout masks) false s found.area) one first.here))
      ]
    ])

-- ---- by what is known

pub known_of : (c : Cartridge) (sure : Option (List ℕ)) (command : Command) (known : Known) → IsCartridge c →
    IsKnown (exported c sure) (plainly command) known → IsOf c known.dump
known_of c sure command known is by =
    record { whole = is; bytes = by.bytes; views = known_views c sure command known is by }

pub header_is_in_force : HeaderIsInForce
header_is_in_force c sure command known area is by has hides =
    let layout = known_layout c sure command known by in
    let header : IsHeader None known.dump (plain_layout known.layout.masks) false known.header =
    subst (λ (zeros : Bool). IsHeader None known.dump (plain_layout known.layout.masks) zeros known.header) by.zero_lost
    (subst (λ (l : Layout). IsHeader None known.dump l known.zero_lost known.header) layout by.header) in
    found_is c known.dump known.layout.masks area known.header (known_of c sure command known is by) has hides
    (in_force c (brought_back c) area (back_alike c 0) (back_alike c 1) has.in_force) header
