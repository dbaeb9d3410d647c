-- The mounting of a cartridge gives just one thing.
use Rattle.std.proofs.Common.{◌≡◌, ℕ, List, inl, inr, None, ap, ◌∙◌, Some, sym, ◌<◌, arith, subst, refl, ◌*◌, [], ◌∷◌, All, ◌⊎◌, Bool, true}
use Rattle.std.proofs.Common.{false, Option}
use Rattle.std.proofs.lemmas.List.Elements.{All-nil, All-cons}
use Rattle.cartridge_laws.proofs.Blocks.{says_always}
use Rattle.cartridge_laws.proofs.HeaderReadingLaws.{header_is_determined, in_area}
use Rattle.cartridge_laws.proofs.Sayings.{says_is_function}
use Rattle.cartridge_laws.proofs.Segments.{cells_are_views, length-whole_cells}
use Rattle.cartridge_laws.proofs.TableLists.{volumes_are_determined}
use Rattle.cartridge_laws.proofs.TableSayings.{table_says_is_function, table_says_always}
use Rattle.cartridge_laws.proofs.TableTotals.{sound_data_show_volumes, data_are_sound_or_faulty}
use Rattle.cartridge_laws.specs.MountLaws.{MountsIsFunction, MountsAlways}
use Rattle.cartridge_spec.specs.Header.{HeaderFault, header_fault, Header, number_in, Field, Holds, number, has_signature}
use Rattle.cartridge_laws.specs.Slots.{TableFault}
use Rattle.cartridge_laws.specs.HeaderTerms.{text_in, words_in, text, IsInForce}
use Rattle.cartridge_spec.specs.HeaderCopies.{CopyReads, copy_cells, HasHeader, CopyDoesNotRead, IsUnformatted, last_segment, IsFormatted}
use Rattle.cartridge_spec.specs.TableSegment.{table_cells, TableIs}
use Rattle.cartridge_spec.specs.Mounting.{IsSoundlyFormatted, RefusesHeader, RefusesTable, Mounting, NotFormatted, Foreign, TableLost}
use Rattle.cartridge_spec.specs.Mounting.{TableMismatch, Mounted, Mounts, IsMounted}
use Rattle.cartridge_spec.specs.Says.{Data, AsRead, ByCode, Saying, TableSays, LostSectors, Mismatch, Says, whole_mask, TableSaying}
use Rattle.cartridge_spec.specs.Table.{IsFirstFault, slot_fault, HasNoFault, Entry}
use Rattle.qic_base.specs.Cartridge.{Cartridge}
use Rattle.qic_base.specs.CartridgeTerms.{IsCartridge}
use Rattle.cartridge_spec.specs.Header as headers
use Rattle.cartridge_spec.specs.Table as tables

-- ---- one header in force

one_copy : (c : Cartridge) (copy : ℕ) (xs ys : List (List ℕ)) → CopyReads c copy xs → CopyReads c copy ys → xs ≡ ys
one_copy c copy xs ys hx hy =
    let same : Data xs ≡ Data ys = says_is_function (copy_cells c copy) (Data xs) (Data ys) hx.says hy.says in
    cc

one_in_force : (c : Cartridge) (xs ys : List (List ℕ)) → IsInForce c xs → IsInForce c ys → xs ≡ ys
one_in_force c xs ys (inl hx) (inl hy) = one_copy c 0 xs ys hx hy
one_in_force c xs ys (inl hx) (inr hy) = absurd (hy.0 xs hx)
one_in_force c xs ys (inr hx) (inl hy) = absurd (hx.0 ys hy)
one_in_force c xs ys (inr hx) (inr hy) = one_copy c 1 xs ys hx.1 hy.1

one_header : (c : Cartridge) (xs ys : List (List ℕ)) → HasHeader c xs → HasHeader c ys → xs ≡ ys
one_header c xs ys hx hy = one_in_force c xs ys hx.in_force hy.in_force

not_in_force : (c : Cartridge) (area : List (List ℕ)) → CopyDoesNotRead c 0 → CopyDoesNotRead c 1 → IsInForce c area → ⊥
not_in_force c area first second (inl reads) = first area reads
not_in_force c area first second (inr reads) = second area reads.1

pub not_unformatted : (c : Cartridge) (area : List (List ℕ)) → IsUnformatted c → HasHeader c area → ⊥
not_unformatted c area (inl without) has = let with_bursts = has.referenced in cc
not_unformatted c area (inr none) has = not_in_force c area none.0 none.1 has.in_force

not_refused : (c : Cartridge) (fault : HeaderFault) → RefusesHeader c fault → IsSoundlyFormatted c → ⊥
not_refused c fault refuses sound =
    let n : ℕ = c.info.segments_per_track in
    let same : refuses.area ≡ sound.area = one_header c refuses.area sound.area refuses.has_header sound.formatted.has_header in
    let none : header_fault refuses.area n ≡ None = ap (λ (area : List (List ℕ)). header_fault area n) same ∙ sound.formatted.sound in
    let some = refuses.first in
    cc

one_refusal : (c : Cartridge) (f g : HeaderFault) → RefusesHeader c f → RefusesHeader c g → f ≡ g
one_refusal c f g hf hg =
    let n : ℕ = c.info.segments_per_track in
    let same : hf.area ≡ hg.area = one_header c hf.area hg.area hf.has_header hg.has_header in
    let both : Some f ≡ Some g = sym hf.first ∙ ap (λ (area : List (List ℕ)). header_fault area n) same ∙ hg.first in
    cc

-- ---- one table

pub one_table : (c : Cartridge) (xs ys : List (List ℕ)) → TableIs c xs → TableIs c ys → xs ≡ ys
one_table c xs ys (inl hx) (inl hy) =
    let same : AsRead xs ≡ AsRead ys = table_says_is_function (table_cells c) (AsRead xs) (AsRead ys) hx hy in
    cc
one_table c xs ys (inl hx) (inr hy) =
    let same : AsRead xs ≡ ByCode (Data ys) = table_says_is_function (table_cells c) (AsRead xs) (ByCode (Data ys)) hx hy in
    absurd (cc)
one_table c xs ys (inr hx) (inl hy) =
    let same : ByCode (Data xs) ≡ AsRead ys = table_says_is_function (table_cells c) (ByCode (Data xs)) (AsRead ys) hx hy in
    absurd (cc)
one_table c xs ys (inr hx) (inr hy) =
    let same : ByCode (Data xs) ≡ ByCode (Data ys) = table_says_is_function (table_cells c) (ByCode (Data xs)) (ByCode (Data ys)) hx hy in
    cc

-- a table whose data are known says nothing else by the code
not_otherwise : (c : Cartridge) (xs : List (List ℕ)) (saying : Saying) → (Data xs ≡ saying → ⊥) → TableIs c xs →
    TableSays (table_cells c) (ByCode saying) → ⊥
not_otherwise c xs saying other (inl hx) says =
    let same : AsRead xs ≡ ByCode saying = table_says_is_function (table_cells c) (AsRead xs) (ByCode saying) hx says in
    cc
not_otherwise c xs saying other (inr hx) says =
    let same : ByCode (Data xs) ≡ ByCode saying = table_says_is_function (table_cells c) (ByCode (Data xs)) (ByCode saying) hx says in
    other (cc)

-- what a table that can be read says is not that it is lost
pub not_lost : (c : Cartridge) (xs : List (List ℕ)) (n : ℕ) → TableIs c xs → TableSays (table_cells c) (ByCode (LostSectors n)) → ⊥
not_lost c xs n table lost = not_otherwise c xs (LostSectors n) (λ same. cc) table lost

not_at_odds : (c : Cartridge) (xs : List (List ℕ)) → TableIs c xs → TableSays (table_cells c) (ByCode Mismatch) → ⊥
not_at_odds c xs table none = not_otherwise c xs Mismatch (λ same. cc) table none

lost_not_at_odds : (c : Cartridge) (n : ℕ) → TableSays (table_cells c) (ByCode (LostSectors n)) →
    TableSays (table_cells c) (ByCode Mismatch) → ⊥
lost_not_at_odds c n lost none =
    let same : ByCode (LostSectors n) ≡ ByCode Mismatch =
    table_says_is_function (table_cells c) (ByCode (LostSectors n)) (ByCode Mismatch) lost none in
    cc

pub one_loss : (c : Cartridge) (m n : ℕ) → TableSays (table_cells c) (ByCode (LostSectors m)) →
    TableSays (table_cells c) (ByCode (LostSectors n)) → m ≡ n
one_loss c m n hm hn =
    let same : ByCode (LostSectors m) ≡ ByCode (LostSectors n) =
    table_says_is_function (table_cells c) (ByCode (LostSectors m)) (ByCode (LostSectors n)) hm hn in
    cc

-- ---- its first fault

earlier_fault : (area : List (List ℕ)) (last : ℕ) (f g : TableFault) (hf : IsFirstFault area last f) (hg : IsFirstFault area last g) →
    hf.place < hg.place → ⊥
earlier_fault area last f g hf hg less =
    let none : slot_fault area last hf.place ≡ None = hg.before hf.place less in
    let some : slot_fault area last hf.place ≡ Some f = hf.here in
    cc

one_first_fault : (area : List (List ℕ)) (last : ℕ) (f g : TableFault) → IsFirstFault area last f → IsFirstFault area last g → f ≡ g
one_first_fault area last f g hf hg =
    let same : hf.place ≡ hg.place = omega (arith, earlier_fault area last f g hf hg, earlier_fault area last g f hg hf) in
    let both : Some f ≡ Some g = sym hf.here ∙ ap (slot_fault area last) same ∙ hg.here in
    cc

not_at_fault : (area : List (List ℕ)) (last : ℕ) (f : TableFault) → IsFirstFault area last f → HasNoFault area last → ⊥
not_at_fault area last f first sound =
    let none : slot_fault area last first.place ≡ None = sound first.place first.within in
    let some : slot_fault area last first.place ≡ Some f = first.here in
    cc

one_slot_refusal : (c : Cartridge) (f g : HeaderFault) → RefusesTable c f → RefusesTable c g → f ≡ g
one_slot_refusal c f g hf hg =
    let area : hf.area ≡ hg.area = one_table c hf.area hg.area hf.table hg.table in
    let first : IsFirstFault hg.area (last_segment c) f =
    subst (λ (xs : List (List ℕ)). IsFirstFault xs (last_segment c) f) area hf.first in
    one_first_fault hg.area (last_segment c) f g first hg.first

slots_not_at_fault : (c : Cartridge) (fault : HeaderFault) (area : List (List ℕ)) → RefusesTable c fault → TableIs c area →
    HasNoFault area (last_segment c) → ⊥
slots_not_at_fault c fault area refuses table sound =
    let same : refuses.area ≡ area = one_table c refuses.area area refuses.table table in
    not_at_fault area (last_segment c) fault
    (subst (λ (xs : List (List ℕ)). IsFirstFault xs (last_segment c) fault) same refuses.first) sound

-- ---- what mounting gives, beside each thing that it may give

unformatted_alone : (c : Cartridge) (m : Mounting) → IsUnformatted c → Mounts c m → NotFormatted ≡ m
unformatted_alone c NotFormatted bare h = refl
unformatted_alone c (Foreign f) bare (inl h) = absurd (not_unformatted c h.area bare h.has_header)
unformatted_alone c (Foreign f) bare (inr h) = absurd (not_unformatted c h.formatted.area bare h.formatted.formatted.has_header)
unformatted_alone c (TableLost n) bare h = absurd (not_unformatted c h.0.area bare h.0.formatted.has_header)
unformatted_alone c TableMismatch bare h = absurd (not_unformatted c h.0.area bare h.0.formatted.has_header)
unformatted_alone c (Mounted header words table entries) bare h = absurd (not_unformatted c h.area bare h.formatted.has_header)

soundly : {c : Cartridge} {header : Header} {words : List ℕ} {table : List (List ℕ)} {entries : List Entry} →
    IsMounted c header words table entries → IsSoundlyFormatted c
soundly {header = header} {words = words} h = record { area = h.area; header = header; words = words; formatted = h.formatted }

refused_alone : (c : Cartridge) (fault : HeaderFault) (m : Mounting) → RefusesHeader c fault → Mounts c m → Foreign fault ≡ m
refused_alone c fault NotFormatted refuses h = absurd (not_unformatted c refuses.area h refuses.has_header)
refused_alone c fault (Foreign f) refuses (inl h) = ap (λ (g : HeaderFault). Foreign g) (one_refusal c fault f refuses h)
refused_alone c fault (Foreign f) refuses (inr h) = absurd (not_refused c fault refuses h.formatted)
refused_alone c fault (TableLost n) refuses h = absurd (not_refused c fault refuses h.0)
refused_alone c fault TableMismatch refuses h = absurd (not_refused c fault refuses h.0)
refused_alone c fault (Mounted header words table entries) refuses h = absurd (not_refused c fault refuses (soundly h))

slot_alone : (c : Cartridge) (fault : HeaderFault) (m : Mounting) → RefusesTable c fault → Mounts c m → Foreign fault ≡ m
slot_alone c fault NotFormatted refuses h = absurd (not_unformatted c refuses.formatted.area h refuses.formatted.formatted.has_header)
slot_alone c fault (Foreign f) refuses (inl h) = absurd (not_refused c f h refuses.formatted)
slot_alone c fault (Foreign f) refuses (inr h) = ap (λ (g : HeaderFault). Foreign g) (one_slot_refusal c fault f refuses h)
slot_alone c fault (TableLost n) refuses h = absurd (not_lost c refuses.area n refuses.table h.1)
slot_alone c fault TableMismatch refuses h = absurd (not_at_odds c refuses.area refuses.table h.1)
slot_alone c fault (Mounted header words table entries) refuses h =
    absurd (slots_not_at_fault c fault table refuses h.reads h.sound)

lost_alone : (c : Cartridge) (k : ℕ) (m : Mounting) → IsSoundlyFormatted c → TableSays (table_cells c) (ByCode (LostSectors k)) →
    Mounts c m →
    TableLost k ≡ m
lost_alone c k NotFormatted sound lost h = absurd (not_unformatted c sound.area h sound.formatted.has_header)
lost_alone c k (Foreign f) sound lost (inl h) = absurd (not_refused c f h sound)
lost_alone c k (Foreign f) sound lost (inr h) = absurd (not_lost c h.area k h.table lost)
lost_alone c k (TableLost n) sound lost h = ap (λ (i : ℕ). TableLost i) (one_loss c k n lost h.1)
lost_alone c k TableMismatch sound lost h = absurd (lost_not_at_odds c k lost h.1)
lost_alone c k (Mounted header words table entries) sound lost h = absurd (not_lost c table k h.reads lost)

at_odds_alone : (c : Cartridge) (m : Mounting) → IsSoundlyFormatted c → TableSays (table_cells c) (ByCode Mismatch) → Mounts c m →
    TableMismatch ≡ m
at_odds_alone c NotFormatted sound none h = absurd (not_unformatted c sound.area h sound.formatted.has_header)
at_odds_alone c (Foreign f) sound none (inl h) = absurd (not_refused c f h sound)
at_odds_alone c (Foreign f) sound none (inr h) = absurd (not_at_odds c h.area h.table none)
at_odds_alone c (TableLost n) sound none h = absurd (lost_not_at_odds c n h.1 none)
at_odds_alone c TableMismatch sound none h = refl
at_odds_alone c (Mounted header words table entries) sound none h = absurd (not_at_odds c table h.reads none)

one_mounted : (c : Cartridge) (h1 h2 : Header) (w1 w2 : List ℕ) (t1 t2 : List (List ℕ)) (e1 e2 : List Entry) →
    IsMounted c h1 w1 t1 e1 → IsMounted c h2 w2 t2 e2 → Mounted h1 w1 t1 e1 ≡ Mounted h2 w2 t2 e2
one_mounted c h1 h2 w1 w2 t1 t2 e1 e2 one other =
    let area : one.area ≡ other.area = one_header c one.area other.area one.formatted.has_header other.formatted.has_header in
    let shown : headers.Shows other.area h1 w1 =
    subst (λ (xs : List (List ℕ)). headers.Shows xs h1 w1) area one.formatted.shown in
    let headed : (h1 ≡ h2) × (w1 ≡ w2) = header_is_determined other.area h1 h2 w1 w2 shown other.formatted.shown in
    let header : h1 ≡ h2 = headed.0 in
    let words : w1 ≡ w2 = headed.1 in
    let table : t1 ≡ t2 = one_table c t1 t2 one.reads other.reads in
    let entries : e1 ≡ e2 = volumes_are_determined t2 e1 e2
    (subst (λ (xs : List (List ℕ)). tables.Shows xs e1) table one.shown) other.shown in
    cc

mounted_alone : (c : Cartridge) (header : Header) (words : List ℕ) (table : List (List ℕ)) (entries : List Entry) (m : Mounting) →
    IsMounted c header words table entries → Mounts c m → Mounted header words table entries ≡ m
mounted_alone c header words table entries NotFormatted is h = absurd (not_unformatted c is.area h is.formatted.has_header)
mounted_alone c header words table entries (Foreign f) is (inl h) = absurd (not_refused c f h (soundly is))
mounted_alone c header words table entries (Foreign f) is (inr h) = absurd (slots_not_at_fault c f table h is.reads is.sound)
mounted_alone c header words table entries (TableLost n) is h = absurd (not_lost c table n is.reads h.1)
mounted_alone c header words table entries TableMismatch is h = absurd (not_at_odds c table is.reads h.1)
mounted_alone c header words table entries (Mounted h2 w2 t2 e2) is h = one_mounted c header h2 words w2 table t2 entries e2 is h

pub mounts_is_function : MountsIsFunction
mounts_is_function c NotFormatted m h g = unformatted_alone c m h g
mounts_is_function c (Foreign f) m (inl h) g = refused_alone c f m h g
mounts_is_function c (Foreign f) m (inr h) g = slot_alone c f m h g
mounts_is_function c (TableLost n) m h g = lost_alone c n m h.0 h.1 g
mounts_is_function c TableMismatch m h g = at_odds_alone c m h.0 h.1 g
mounts_is_function c (Mounted header words table entries) m h g = mounted_alone c header words table entries m h g

-- ---- it gives something

words_shown : List (List ℕ) → List ℕ
words_shown area = words_in area (28 * (in_area area).segments_per_track)

-- what holds of each of five fields holds of all
all_five : (P : Field → Type 0) (f g h i j : Field) → P f → P g → P h → P i → P j → All P (f ∷ g ∷ h ∷ i ∷ j ∷ [])
all_five P f g h i j pf pg ph pi pj =
    All-cons P f (g ∷ h ∷ i ∷ j ∷ []) pf
    (All-cons P g (h ∷ i ∷ j ∷ []) pg (All-cons P h (i ∷ j ∷ []) ph (All-cons P i (j ∷ []) pi (All-cons P j [] pj (All-nil P)))))

data_show : (area : List (List ℕ)) → headers.Shows area (in_area area) (words_shown area)
unfolding in_area words_shown
data_show area = record {
  header = all_five (Holds area)
      (number 14 4 (number_in area 14 4)) (number 18 4 (number_in area 18 4)) (number 24 2 (number_in area 24 2))
      (text 30 44 (text_in area 30 44)) (number 74 4 (number_in area 74 4)) refl refl refl refl refl;
  map = refl;
}

-- a copy reads, or it doesn't
record Reading (c : Cartridge) (copy : ℕ) : Type 0 where
  area : List (List ℕ)
  reads : CopyReads c copy area

abbrev IsDecided : Cartridge → (copy : ℕ) → Type 0
IsDecided c copy = Reading c copy ⊎ CopyDoesNotRead c copy

other_saying : (c : Cartridge) (copy : ℕ) (saying : Saying) → Says (copy_cells c copy) saying →
    ((area : List (List ℕ)) → Data area ≡ saying → ⊥) → CopyDoesNotRead c copy
other_saying c copy saying says other area reads =
    other area (says_is_function (copy_cells c copy) (Data area) saying reads.says says)

by_signature : (c : Cartridge) (copy : ℕ) (area : List (List ℕ)) (b : Bool) → Says (copy_cells c copy) (Data area) →
    has_signature area ≡ b →
    IsDecided c copy
by_signature c copy area true says signature = inl (record { area = area; reads = record { says = says; signature = signature } })
by_signature c copy area false says signature = inr (λ other reads.
    let said : Data other ≡ Data area = says_is_function (copy_cells c copy) (Data other) (Data area) reads.says says in
    let same : other ≡ area = cc in
    let with_it : has_signature area ≡ true = subst (λ (xs : List (List ℕ)). has_signature xs ≡ true) same reads.signature in
    cc)

by_saying : (c : Cartridge) (copy : ℕ) (saying : Saying) → Says (copy_cells c copy) saying → IsDecided c copy
by_saying c copy (Data area) says = by_signature c copy area (has_signature area) says refl
by_saying c copy (LostSectors n) says = inr (other_saying c copy (LostSectors n) says (λ area same. cc))
by_saying c copy Mismatch says = inr (other_saying c copy Mismatch says (λ area same. cc))

copy_is_decided : (c : Cartridge) (copy : ℕ) → IsCartridge c → IsDecided c copy
copy_is_decided c copy whole =
    let says = says_always (copy_cells c copy) (cells_are_views c copy whole_mask whole) in
    by_saying c copy says.0 says.1

-- something that the mounting gives
record Given (c : Cartridge) : Type 0 where
  mounting : Mounting
  is : Mounts c mounting

outcome : (c : Cartridge) (m : Mounting) → Mounts c m → Given c
outcome c m is = record { mounting = m; is = is }

with_table : (c : Cartridge) (area table : List (List ℕ)) → IsFormatted c area (in_area area) (words_shown area) → TableIs c table →
    ((fault : TableFault) × IsFirstFault table (last_segment c) fault) ⊎ HasNoFault table (last_segment c) → Given c
with_table c area table formatted reads (inl faulty) =
    outcome c (Foreign faulty.0) (inr (record {
      formatted = record { area = area; header = in_area area; words = words_shown area; formatted = formatted };
      area = table;
      table = reads;
      first = faulty.1;
    }))
with_table c area table formatted reads (inr sound) =
    let shown = sound_data_show_volumes table (last_segment c) sound in
    outcome c (Mounted (in_area area) (words_shown area) table shown.0) (record {
      area = area;
      formatted = formatted;
      reads = reads;
      sound = sound;
      shown = shown.1;
    })

by_table : (c : Cartridge) (area : List (List ℕ)) (saying : TableSaying) → IsFormatted c area (in_area area) (words_shown area) →
    TableSays (table_cells c) saying → Given c
by_table c area (AsRead table) formatted says =
    with_table c area table formatted (inl says) (data_are_sound_or_faulty table (last_segment c))
by_table c area (ByCode (Data table)) formatted says =
    with_table c area table formatted (inr says) (data_are_sound_or_faulty table (last_segment c))
by_table c area (ByCode (LostSectors n)) formatted says =
    outcome c (TableLost n) (record { area = area; header = in_area area; words = words_shown area; formatted = formatted }, says)
by_table c area (ByCode Mismatch) formatted says =
    outcome c TableMismatch (record { area = area; header = in_area area; words = words_shown area; formatted = formatted }, says)

table_says : (c : Cartridge) → IsCartridge c → (saying : TableSaying) × TableSays (table_cells c) saying
table_says c whole =
    let long = length-whole_cells c 2 in
    table_says_always (table_cells c) (omega arith) (cells_are_views c 2 whole_mask whole)

by_header : (c : Cartridge) (area : List (List ℕ)) (fault : Option HeaderFault) → IsCartridge c → HasHeader c area →
    header_fault area c.info.segments_per_track ≡ fault → Given c
by_header c area (Some fault) whole has first =
    outcome c (Foreign fault) (inl (record { area = area; has_header = has; first = first }))
by_header c area None whole has sound =
    let says = table_says c whole in
    by_table c area says.0 (record { has_header = has; sound = sound; shown = data_show area }) says.1

by_force : (c : Cartridge) (area : List (List ℕ)) → IsCartridge c → c.info.referenced ≡ true → IsInForce c area → Given c
by_force c area whole referenced in_force =
    by_header c area (header_fault area c.info.segments_per_track) whole (record { referenced = referenced; in_force = in_force }) refl

by_copies : (c : Cartridge) → IsCartridge c → c.info.referenced ≡ true → IsDecided c 0 → IsDecided c 1 → Given c
by_copies c whole referenced (inl first) second = by_force c first.area whole referenced (inl first.reads)
by_copies c whole referenced (inr none) (inl second) = by_force c second.area whole referenced (inr (none, second.reads))
by_copies c whole referenced (inr none) (inr neither) = outcome c NotFormatted (inr (none, neither))

by_bursts : (c : Cartridge) (b : Bool) → IsCartridge c → c.info.referenced ≡ b → Given c
by_bursts c false whole without = outcome c NotFormatted (inl without)
by_bursts c true whole referenced = by_copies c whole referenced (copy_is_decided c 0 whole) (copy_is_decided c 1 whole)

pub mounts_always : MountsAlways
mounts_always c whole = let some = by_bursts c c.info.referenced whole refl in (some.mounting, some.is)
