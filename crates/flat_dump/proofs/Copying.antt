-- Segments of a dump that are read and written one behind the other.
use Rattle.std.proofs.Common.{◌≡◌, ◌≢◌, ℕ, zero, suc, ◌+◌, ◌-◌, ◌*◌, ◌/◌, ◌%◌, ◌^◌, ◌<◌, ◌≤◌, ◌&&◌, Bool, true, false, min, List, [], ◌∷◌}
use Rattle.std.proofs.Common.{◌++◌, length, get_or, take, drop, replicate, map, nat_le, if◌then◌else◌, Option, Some, None, IfSome, ⊎_elim}
use Rattle.std.proofs.Common.{refl, sym, ◌∙◌, ap, ap₂, subst, arith}
use Rattle.std.specs.Prelude.{◌==◌, slice_index, slice_range}
use Rattle.std.specs.Int.{bit_at}
use Rattle.std.specs.List.{range_with_len}
use Rattle.std.specs.Option.{option_map}
use Rattle.std.proofs.Math.ListN.{get_or-append}
use Rattle.std.proofs.Math.Seq.{drop-append-add}
use Rattle.std.proofs.lemmas.Bool.{cases_lt, leb-true, leb-false, le-leb, lt-leb}
use Rattle.std.proofs.lemmas.List.{take_all, take-append-le, drop-append-le, drop-drop, get_or-append_right, length-append, length-drop}
use Rattle.std.proofs.lemmas.List.{length-take-le, length-replicate, append-nil}
use Rattle.std.proofs.lemmas.List.FromFn.{get_or-map-range_with_len, length-map-range_with_len}
use Rattle.std.proofs.lemmas.List.Sums.{sum_by-append}
use Rattle.cart_image.specs.Layout.{cells_len}
use Rattle.cartridge_spec.specs.Appending.{filled_up, in_sectors}
use Rattle.qic_base.proofs.Giving.{Gave-Gave, Gave-end, Gave-nothing, Gave-read}
use Rattle.qic_base.specs.SourceCalls.{Gave, Gives, HasEnded}
use Rattle.qic_base.specs.declared.tape.SectorView.{SectorView}
use Rattle.qic_base.specs.declared.tape.SectorView.TheVariants.{Blank, Lost, Holds}
use Rattle.rescue_map.specs.Text.{is_marked}
use Rattle.sector_fill.specs.Filling.{AreFilled}
use Rattle.flat_dump.specs.Cells.{AreWhole, is_held, cell_in, view_in, cells_of, views_of, joined}
use Rattle.flat_dump.specs.Import.{GaveFew, IsNoImage, lost_bit, lost_count}
use Rattle.flat_dump.specs.Imported.{imported_view}
use Rattle.flat_dump.specs.Importing.{IsCell, IsLaid, StoodSince, Unfinished, WasCopied, begun}
use Rattle.flat_dump.specs.declared.importing.Copied.{Copied}
use Rattle.flat_dump.proofs.Celling.{cell_shows}
use Rattle.flat_dump.proofs.Laying.{length-cell, laid_none, laid_more, length-laid, length-joined}
use Rattle.flat_dump.specs.Stops.{IsUnsigned}
use Rattle.flat_dump.proofs.Passing.{stays_as}
use Rattle.flat_dump.proofs.Stops.{unsigned_none}
use Rattle.qic_base.specs.Source.{IsInput}
use Rattle.sector_fill.proofs.Sectors.{length-filled_up}
use Rattle.qic_base.specs.Disk as disks
use Rattle.qic_base.specs.Source as sources

-- ---- the sectors of bytes

length-front : (bytes : List ℕ) → length (take 1024 bytes) ≤ 1024
length-front bytes = ⊎_elim
    (λ less. let l = length-take-le 1024 bytes (omega arith) in omega arith)
    (λ more. let l : length (take 1024 bytes) ≡ length bytes = ap (λ (xs : List ℕ). length xs) (take_all 1024 bytes more) in omega arith)
    (cases_lt 1024 (length bytes))

sector_at : (count : ℕ) (bytes : List ℕ) (i : ℕ) → i < count → get_or (in_sectors count bytes) i [] ≡ filled_up
    (take 1024 (drop (1024 * i) bytes))
sector_at zero bytes i within = absurd (omega arith)
sector_at (suc count) bytes zero within = refl
sector_at (suc count) bytes (suc i) within =
    let far : 1024 + 1024 * i ≡ 1024 * suc i = omega arith in
    sector_at count (drop 1024 bytes) i (omega arith)
    ∙ ap (λ (xs : List ℕ). filled_up (take 1024 xs)) (drop-drop (1024 * i) 1024 bytes ∙ ap (λ (k : ℕ). drop k bytes) far)

length-sector : (bytes : List ℕ) (i : ℕ) → i < 32 → length (get_or (in_sectors 32 bytes) i []) ≡ 1024
length-sector bytes i within =
    ap (λ (xs : List ℕ). length xs) (sector_at 32 bytes i within) ∙ length-filled_up (take 1024 (drop (1024 * i) bytes))
    (length-front (drop (1024 * i) bytes))

-- one that came whole
sector_is : (bytes : List ℕ) (i : ℕ) → i < 32 → 1024 * i + 1024 ≤ length bytes → get_or (in_sectors 32 bytes) i [] ≡ take 1024
    (drop (1024 * i) bytes)
sector_is bytes i within whole =
    let long : length (take 1024 (drop (1024 * i) bytes)) ≡ 1024 = length-take-le 1024 (drop (1024 * i) bytes)
    (let l = length-drop (1024 * i) bytes in omega arith) in
    let none : 1024 - length (take 1024 (drop (1024 * i) bytes)) ≡ 0 = omega arith in
    sector_at 32 bytes i within
    ∙ ap (λ (padding : ℕ). take 1024 (drop (1024 * i) bytes) ++ replicate padding 0) none ∙ append-nil (take 1024 (drop (1024 * i) bytes))

-- ---- their cells

pub cells_of-is : (word len : ℕ) (sectors : List (List ℕ)) → cells_of word len sectors ≡ map (cell_in word len sectors)
    (range_with_len 0 32)
unfolding cells_of
cells_of-is word len sectors = refl

pub views_of-is : (word len : ℕ) (sectors : List (List ℕ)) → views_of word len sectors ≡ map (view_in word len sectors)
    (range_with_len 0 32)
unfolding views_of
views_of-is word len sectors = refl

length-cells_of : (word len : ℕ) (sectors : List (List ℕ)) → length (cells_of word len sectors) ≡ 32
length-cells_of word len sectors = ap (λ (xs : List (List ℕ)). length xs) (cells_of-is word len sectors)
    ∙ length-map-range_with_len (cell_in word len sectors) 0 32

length-views_of : (word len : ℕ) (sectors : List (List ℕ)) → length (views_of word len sectors) ≡ 32
length-views_of word len sectors = ap (λ (xs : List SectorView). length xs) (views_of-is word len sectors)
    ∙ length-map-range_with_len (view_in word len sectors) 0 32

cell_of-at : (word len : ℕ) (sectors : List (List ℕ)) (q : ℕ) → q < 32 →
    get_or (cells_of word len sectors) q [] ≡ cell_in word len sectors q
cell_of-at word len sectors q within =
    ap (λ (xs : List (List ℕ)). get_or xs q []) (cells_of-is word len sectors)
    ∙ get_or-map-range_with_len (cell_in word len sectors) 0 32 q q [] within (omega arith)

view_of-at : (word len : ℕ) (sectors : List (List ℕ)) (q : ℕ) → q < 32 →
    get_or (views_of word len sectors) q Blank ≡ view_in word len sectors q
view_of-at word len sectors q within =
    ap (λ (xs : List SectorView). get_or xs q Blank) (views_of-is word len sectors)
    ∙ get_or-map-range_with_len (view_in word len sectors) 0 32 q q Blank within (omega arith)

are_cells : (word len : ℕ) (sectors : List (List ℕ)) → ((i : ℕ) → i < 32 → length (get_or sectors i []) ≡ 1024) →
    (q : ℕ) → q < 32 → IsCell (get_or (cells_of word len sectors) q []) (get_or (views_of word len sectors) q Blank)
are_cells word len sectors sizes q within =
    let size = sizes q within in
    let l = length-cell (is_held word len q) (get_or sectors q []) in
    let is : IsCell (cell_in word len sectors q) (view_in word len sectors q) =
    record { size = omega arith; shows = cell_shows (is_held word len q) (get_or sectors q []) size } in
    let C : List ℕ → Type 0 = λ c. IsCell c (get_or (views_of word len sectors) q Blank) in
    let V : SectorView → Type 0 = λ v. IsCell (cell_in word len sectors q) v in
    subst C (sym (cell_of-at word len sectors q within)) (subst V (sym (view_of-at word len sectors q within)) is)

pub length-segment : (word len : ℕ) (sectors : List (List ℕ)) → ((i : ℕ) → i < 32 → length (get_or sectors i []) ≡ 1024) →
    length (joined (cells_of word len sectors)) ≡ cells_len
length-segment word len sectors sizes =
    let count = length-cells_of word len sectors in
    let all = length-joined (cells_of word len sectors) (λ q within. let c = are_cells word len sectors sizes q (omega arith) in c.size) in
    omega arith

-- one lost sector more
pub lost_next : (held : Bool) (bytes : List ℕ) (before next : ℕ) → next ≡ (if held then before else before + 1) →
    next ≡ before + lost_bit (if held then Holds bytes else Lost)
lost_next true bytes before next is = is ∙ (omega arith)
lost_next false bytes before next is = is

-- ---- a dump that gets longer

leb_same : (a b c d : ℕ) → (a ≤ b → c ≤ d) → (c ≤ d → a ≤ b) → nat_le a b ≡ nat_le c d
leb_same a b c d there back = by_left (nat_le a b) refl where
  by_left : (x : Bool) → nat_le a b ≡ x → x ≡ nat_le c d
  by_left true e = sym (le-leb c d (there (leb-true a b e)))
  by_left false e = let less = leb-false a b e in
      sym (lt-leb c d (⊎_elim (λ below. below) (λ past. let wrong = back past in absurd (omega arith)) (cases_lt d c)))

same_view : (a b : Bool) (x y : List ℕ) → (b ≡ true → x ≡ y) → (if a && b then Holds x else Lost) ≡ (if a && b then Holds y else Lost)
same_view true true x y same = ap Holds (same refl)
same_view true false x y same = refl
same_view false b x y same = refl

view_longer : (text more mask : List ℕ) (q : ℕ) → 1024 * q + 1024 ≤ length text →
    imported_view (text ++ more) mask q ≡ imported_view text mask q
view_longer text more mask q within =
    let both = length-append text more in
    let size : 1024 * q + 1024 - 1024 * q ≡ 1024 = omega arith in
    let l = length-drop (1024 * q) text in
    let range : slice_range (text ++ more) (1024 * q) (1024 * q + 1024) ≡ slice_range text (1024 * q) (1024 * q + 1024) =
    ap (take (1024 * q + 1024 - 1024 * q)) (drop-append-le (1024 * q) text more (omega arith))
    ∙ take-append-le (1024 * q + 1024 - 1024 * q) (drop (1024 * q) text) more (omega arith) in
    let fits : nat_le (1024 * q + 1024) (length (text ++ more)) ≡ nat_le (1024 * q + 1024) (length text) =
    leb_same _ _ _ _ (λ h. omega arith) (λ h. omega arith) in
    ap₂ (λ (b : Bool) (bytes : List ℕ). if is_marked mask q && b then Holds bytes else Lost) fits range

-- a sector of the segment that came last
view_came : (text more mask : List ℕ) (segment i q : ℕ) → length text ≡ 32768 * segment → i < 32 → q ≡ 32 * segment + i →
    imported_view (text ++ more) mask q ≡ view_in (slice_index mask segment) (length more) (in_sectors 32 more) i
view_came text more mask segment i q long within at =
    let both = length-append text more in
    let place : q / 32 ≡ segment = omega arith in
    let index : q % 32 ≡ i = omega arith in
    let marks : is_marked mask q ≡ (bit_at (slice_index mask segment) i == 1) =
    ap₂ (λ (a b : ℕ). bit_at (slice_index mask a) b == 1) place index in
    let fits : nat_le (1024 * q + 1024) (length (text ++ more)) ≡ nat_le (1024 * i + 1024) (length more) =
    leb_same _ _ _ _ (λ h. omega arith) (λ h. omega arith) in
    let size : 1024 * q + 1024 - 1024 * q ≡ 1024 = omega arith in
    let far : 1024 * q ≡ length text + 1024 * i = omega arith in
    ap₂ (λ (a b : Bool). if a && b then Holds (slice_range (text ++ more) (1024 * q) (1024 * q + 1024)) else Lost) marks fits
    ∙ same_view (bit_at (slice_index mask segment) i == 1) (nat_le (1024 * i + 1024) (length more)) _ _ (λ e.
    let whole = leb-true (1024 * i + 1024) (length more) e in
    ap₂ (λ (a b : ℕ). take a (drop b (text ++ more))) size far
    ∙ ap (take 1024) (drop-append-add text more (1024 * i))
    ∙ sym (sector_is more i within whole))

-- ---- segments copied

pub record CopiedSoFar {S D : Type 0} (s : sources.Meaning S) (m : disks.Meaning D) (first now : S) (old new : D) (mask : List ℕ)
    (segments lost bytes : ℕ) : Type 0 where
  pub text : List ℕ
  pub gave : Gave s first now text
  pub long : length text ≡ bytes
  pub views : List SectorView
  pub size : length views ≡ 32 * segments
  pub each : (q : ℕ) → q < 32 * segments → get_or views q Blank ≡ imported_view text mask q
  pub lost_is : lost ≡ lost_count views
  pub file : List ℕ
  pub laid : IsLaid file views
  pub goes : (disk : D) → Unfinished m disk old begun → Unfinished m disk new file

pub none_copied : {S D : Type 0} (s : sources.Meaning S) (m : disks.Meaning D) (source : S) (disk : D) (mask : List ℕ) →
    Gave s source source [] → CopiedSoFar s m source source disk disk mask 0 0 0
none_copied s m source disk mask nothing = record {
  text = [];
  gave = nothing;
  long = refl;
  views = [];
  size = refl;
  each = λ q within. absurd (omega arith);
  lost_is = refl;
  file = begun;
  laid = laid_none;
  goes = λ d u. u;
}

pub copied_more : {S D : Type 0} (s : sources.Meaning S) (m : disks.Meaning D) (first now next : S) (old mid new : D) (mask : List ℕ)
    (segment lost len more : ℕ) (sectors : List (List ℕ)) →
    CopiedSoFar s m first now old mid mask segment lost (32768 * segment) → AreFilled s now next 32 32768 sectors len →
    more ≡ lost_count (views_of (slice_index mask segment) len sectors) →
    ((disk : D) (file : List ℕ) → length file ≡ 64 + cells_len * segment → Unfinished m disk mid file →
    Unfinished m disk new (file ++ joined (cells_of (slice_index mask segment) len sectors))) →
    CopiedSoFar s m first next old new mask (segment + 1) (lost + more) (32768 * segment + len)
copied_more s m first now next old mid new mask segment lost len more sectors before filled counts goes =
    let bytes : List ℕ = filled.0 in
    let word : ℕ = slice_index mask segment in
    let came : length bytes ≡ len = filled.1 in
    let up_to = filled.2 in
    let cut : sectors ≡ in_sectors 32 bytes = filled.3 in
    let long = before.long in
    let size = before.size in
    let sizes : (i : ℕ) → i < 32 → length (get_or sectors i []) ≡ 1024 = λ i w. ap (λ (xs : List (List ℕ)). length (get_or xs i [])) cut
    ∙ length-sector bytes i w in
    record {
      text = before.text ++ bytes;
      gave = Gave-Gave s first now next before.text bytes before.gave up_to.gave;
      long = length-append before.text bytes ∙ (omega arith);
      views = before.views ++ views_of word len sectors;
      size = length-append before.views (views_of word len sectors) ∙ (let l = length-views_of word len sectors in omega arith);
      each = λ q within. ⊎_elim
          (λ below. get_or-append before.views (views_of word len sectors) Blank q (omega arith) ∙ before.each q below
          ∙ sym (view_longer before.text bytes mask q (omega arith)))
          (λ past.
          let i : ℕ = q - 32 * segment in
          get_or-append_right before.views (views_of word len sectors) (32 * segment) q Blank size past
          ∙ view_of-at word len sectors i (omega arith)
          ∙ ap₂ (λ (n : ℕ) (xs : List (List ℕ)). view_in word n xs i) (sym came) cut
          ∙ sym (view_came before.text bytes mask segment i q long (omega arith) (omega arith)))
          (cases_lt q (32 * segment));
      lost_is = ap₂ (λ (a b : ℕ). a + b) before.lost_is counts ∙ sym (sum_by-append lost_bit before.views (views_of word len sectors));
      file = before.file ++ joined (cells_of word len sectors);
      laid = laid_more before.file before.views (cells_of word len sectors) (views_of word len sectors) before.laid
          (length-cells_of word len sectors ∙ sym (length-views_of word len sectors))
          (λ q within. are_cells word len sectors sizes q (let l = length-views_of word len sectors in omega arith));
      goes = λ d u. goes d before.file (let l = length-laid before.file before.views before.laid in omega arith) (before.goes d u);
    }

-- ---- the end of the dump

dump_ended : (o p : Option (List ℕ)) (text : List ℕ) → o ≡ option_map (λ rest. text ++ rest) p → IfSome p (λ bytes. bytes ≡ []) →
    IsInput o text
dump_ended None p text gave ended = tt
dump_ended (Some b) None text gave ended = cc
dump_ended (Some b) (Some rest) text gave ended =
    let whole : b ≡ text ++ rest = cc in
    sym (whole ∙ ap (λ (xs : List ℕ). text ++ xs) ended ∙ append-nil text)

IsInput-ended : {S : Type 0} (s : sources.Meaning S) (first now : S) (text : List ℕ) → Gave s first now text → HasEnded s now →
    IsInput (s.left first) text
IsInput-ended s first now text gave ended = dump_ended (s.left first) (s.left now) text gave ended

dump_rest : (o p : Option (List ℕ)) (text rest : List ℕ) → o ≡ option_map (λ r. text ++ r) p → IsInput p rest → IsInput o (text ++ rest)
dump_rest None p text rest gave told = tt
dump_rest (Some b) None text rest gave told = cc
dump_rest (Some b) (Some r) text rest gave told =
    let whole : b ≡ text ++ r = cc in
    ap (λ (xs : List ℕ). text ++ xs) told ∙ sym whole

IsInput-rest : {S : Type 0} (s : sources.Meaning S) (first now : S) (text rest : List ℕ) → Gave s first now text →
    IsInput (s.left now) rest → IsInput (s.left first) (text ++ rest)
IsInput-rest s first now text rest gave told = dump_rest (s.left first) (s.left now) text rest gave told

IsInput-some : {S : Type 0} (s : sources.Meaning S) (first now : S) (text : List ℕ) → Gave s first now text → (rest : List ℕ)
    × IsInput (s.left first) (text ++ rest)
IsInput-some s first now text gave = by_left (s.left now) refl where
  by_left : (o : Option (List ℕ)) → s.left now ≡ o → (rest : List ℕ) × IsInput (s.left first) (text ++ rest)
  by_left None e = ([], IsInput-rest s first now text [] gave (subst (λ (p : Option (List ℕ)). IfSome p (λ b. [] ≡ b)) (sym e) tt))
  by_left (Some b) e = (b, IsInput-rest s first now text b gave (subst (λ (p : Option (List ℕ)). IfSome p (λ c. b ≡ c)) (sym e) refl))

-- ---- how a copy ends

nothing_of : (bytes : List ℕ) → length bytes ≡ 0 → bytes ≡ []
nothing_of [] size = refl
nothing_of (b ∷ bytes) size = absurd (omega arith)

-- no byte came
pub copied_ended : {S D : Type 0} (s : sources.Meaning S) (m : disks.Meaning D) (first now next : S) (old new : D) (mask : List ℕ)
    (segments lost bytes : ℕ) (sectors : List (List ℕ)) →
    CopiedSoFar s m first now old new mask segments lost bytes → AreFilled s now next 32 32768 sectors 0 →
    CopiedSoFar s m first next old new mask segments lost bytes × HasEnded s next
copied_ended s m first now next old new mask segments lost bytes sectors before filled =
    let up_to = filled.2 in
    let none : length filled.0 ≡ 0 = filled.1 in (
      record {
        text = before.text;
        gave = Gave-end s first now next before.text before.gave (subst (Gave s now next) (nothing_of filled.0 none) up_to.gave);
        long = before.long;
        views = before.views;
        size = before.size;
        each = before.each;
        lost_is = before.lost_is;
        file = before.file;
        laid = before.laid;
        goes = before.goes;
      },
      up_to.ended (omega arith) (omega arith),
    )

-- fewer came than a segment has
pub filled_ended : {S : Type 0} (s : sources.Meaning S) (now next : S) (sectors : List (List ℕ)) (len : ℕ) →
    AreFilled s now next 32 32768 sectors len → len < 32768 → HasEnded s next
filled_ended s now next sectors len filled less =
    let up_to = filled.2 in
    let size : length filled.0 ≡ len = filled.1 in
    up_to.ended (omega arith) (omega arith)

pub filled_within : {S : Type 0} (s : sources.Meaning S) (now next : S) (sectors : List (List ℕ)) (len : ℕ) →
    AreFilled s now next 32 32768 sectors len → len ≤ 32768
filled_within s now next sectors len filled =
    let up_to = filled.2 in
    let size : length filled.0 ≡ len = filled.1 in
    let within = up_to.within in
    omega arith

pub filled_whole : {S : Type 0} (s : sources.Meaning S) (now next : S) (sectors : List (List ℕ)) (len : ℕ) →
    AreFilled s now next 32 32768 sectors len → AreWhole sectors
filled_whole s now next sectors len filled = λ i within. ap (λ (xs : List (List ℕ)). length (get_or xs i [])) filled.3
    ∙ length-sector filled.0 i within

pub copied_to_end : {S D : Type 0} (s : sources.Meaning S) (m : disks.Meaning D) (first now : S) (old new : D) (mask : List ℕ)
    (most segments lost bytes : ℕ) (copied : Copied) →
    CopiedSoFar s m first now old new mask segments lost bytes → HasEnded s now → copied.segments ≡ segments → copied.lost ≡ lost →
    copied.bytes ≡ bytes →
    segments ≤ most → most ≤ 6888 → 32768 * segments < bytes + 32768 → bytes ≤ 32768 * segments →
    WasCopied s m first old new mask most copied
copied_to_end s m first now old new mask most segments lost bytes copied so_far ended is_segments is_lost is_bytes within few needed whole =
    let long = so_far.long in
    record {
      dump = so_far.text;
      told = IsInput-ended s first now so_far.text so_far.gave ended;
      bytes = omega arith;
      within = omega arith;
      needed = omega arith;
      whole = λ less. omega arith;
      views = so_far.views;
      size = so_far.size ∙ ap (λ (k : ℕ). 32 * k) (sym is_segments);
      each = λ q less. so_far.each q (omega arith);
      lost = is_lost ∙ so_far.lost_is;
      file = so_far.file;
      laid = so_far.laid;
      goes = so_far.goes;
    }

pub copied_to_limit : {S D : Type 0} (s : sources.Meaning S) (m : disks.Meaning D) (first now : S) (old new : D) (mask : List ℕ)
    (most lost more : ℕ) (copied : Copied) →
    CopiedSoFar s m first now old new mask most lost (32768 * most) → (rest : List ℕ) × IsInput (s.left now) rest
    × (more ≡ min (length rest) 1) →
    copied.segments ≡ most → copied.lost ≡ lost → copied.bytes ≡ 32768 * most + more → WasCopied s m first old new mask most copied
copied_to_limit s m first now old new mask most lost more copied so_far (rest, told, is) is_segments is_lost is_bytes =
    let long = so_far.long in
    let both = length-append so_far.text rest in
    record {
      dump = so_far.text ++ rest;
      told = IsInput-rest s first now so_far.text rest so_far.gave told;
      bytes = omega arith;
      within = omega arith;
      needed = omega arith;
      whole = λ less. absurd (omega arith);
      views = so_far.views;
      size = so_far.size ∙ ap (λ (k : ℕ). 32 * k) (sym is_segments);
      each = λ q less. so_far.each q (omega arith) ∙ sym (view_longer so_far.text rest mask q (omega arith));
      lost = is_lost ∙ so_far.lost_is;
      file = so_far.file;
      laid = so_far.laid;
      goes = so_far.goes;
    }

-- a file that is no image yet is none
pub no_image_yet : {D : Type 0} (m : disks.Meaning D) (first now : D) (file : List ℕ) → Unfinished m first now file → StoodSince m first now
no_image_yet m first now file u = record {
  stood = u.stood;
  stays = stays_as m first now IsUnsigned IsNoImage IsNoImage IsNoImage unsigned_none (λ b none. none) u.stays;
}

-- ---- how many bytes the source gave

pub few_more : {S D : Type 0} (s : sources.Meaning S) (m : disks.Meaning D) (first now next : S) (old new : D) (mask : List ℕ)
    (segment lost most room : ℕ) (bytes : List ℕ) → CopiedSoFar s m first now old new mask segment lost (32768 * segment) →
    length bytes ≤ room → 32768 * segment + room ≤ most → Gave s now next bytes → GaveFew s first next most
few_more s m first now next old new mask segment lost most room bytes so_far short within gave =
    let long = so_far.long in
    let both = length-append so_far.text bytes in
    (so_far.text ++ bytes, omega arith, Gave-Gave s first now next so_far.text bytes so_far.gave gave)

-- ---- the byte behind the segments

pub counts_next : (o : Option (List ℕ)) (into : List ℕ) (n : ℕ) → n ≤ 1 → IfSome o (λ bytes. Gives bytes into n) → (rest : List ℕ)
    × IsInput o rest × (n ≡ min (length rest) 1)
counts_next None into n within gives = (replicate n 0, tt, omega (arith, length-replicate {A = ℕ} n 0))
counts_next (Some bytes) into n within gives =
    let there = gives.there in
    let is : n ≡ min (length bytes) 1 = ⊎_elim
    (λ some. omega arith)
    (λ none.
    let zero_is : n ≡ 0 = omega arith in
    let e : length bytes ≡ 0 = ap (λ (xs : List ℕ). length xs) (gives.ended.0 zero_is) in omega arith)
    (cases_lt 0 n) in
    (bytes, refl, is)

pub gave_next : {S : Type 0} (s : sources.Meaning S) (now next : S) (into : List ℕ) (n : ℕ) → length into ≡ 1 → n ≤ 1 →
    IfSome (s.left now) (λ left. Gives left into n) → s.left next ≡ option_map (drop n) (s.left now) → GaveFew s now next 1
gave_next s now next into n room within gives left =
    let few = length-take-le n into (omega arith) in
    (take n into, omega arith, Gave-read s now next into n gives left)
