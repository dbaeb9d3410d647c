-- Scrubbing a cartridge does one thing, and it does something.
use Rattle.std.proofs.Common.{◌≡◌, List, [], ◌∷◌, refl, sym, ap, ◌∙◌, subst, ℕ, Bool, true, false, cond, All, Option, Some, IsSomeAnd}
use Rattle.std.proofs.Common.{nat_lt}
use Rattle.std.proofs.lemmas.List.Elements.{All-head, All-tail, All-append}
use Rattle.std.proofs.lemmas.Bool.{lt-ltb, false≢true}
use Rattle.cartridge_laws.proofs.AppendWhole.{sector_writes_are_cartridge}
use Rattle.cartridge_laws.proofs.Blocks.{says_always}
use Rattle.cartridge_laws.proofs.FormatWriting.{effects-some}
use Rattle.cartridge_laws.proofs.Sayings.{says_is_function, said_are_sectors}
use Rattle.cartridge_laws.proofs.Segments.{cells_are_views}
use Rattle.cartridge_laws.specs.AppendWrites.{AreWrites, IsOfSector}
use Rattle.cartridge_spec.specs.Code.{parity_sectors}
use Rattle.cartridge_spec.specs.Header.{has_signature}
use Rattle.cartridge_spec.specs.HeaderCopies.{copy_cells, CopyReads}
use Rattle.cartridge_spec.specs.Says.{Saying, Data, Says, with_parity, LostSectors, Mismatch}
use Rattle.cartridge_spec.specs.Settling.{changed_by}
use Rattle.cartridge_spec.specs.Shape.{is_unreadable, usable_places}
use Rattle.command_laws.specs.ScrubLaws.{ScrubsIsFunction, ScrubsAlways, CopyIsLookedAt}
use Rattle.command_laws.specs.ScrubPlain.{SayInTurn}
use Rattle.command_spec.specs.Scrub.{Looked, cells_at, steps_in, looked_at, mending_writes, reads, whole_segment}
use Rattle.command_laws.specs.ScrubTerms.{scrub_acts}
use Rattle.gf256_qic.proofs.Parities.{parity_sectors-are_sectors}
use Rattle.qic_base.proofs.Steps.{Torn-all}
use Rattle.qic_base.specs.Cartridge.{Cartridge, IsSector, view_at}
use Rattle.qic_base.specs.CartridgeTerms.{IsCartridge}
use Rattle.qic_base.specs.Step.{Step, write_sector, effects}

-- ---- one list of acts

one_turn : (ls : List Looked) (c : Cartridge) (ss ts : List Saying) → SayInTurn c ls ss → SayInTurn c ls ts → ss ≡ ts
one_turn [] c [] [] a b = refl
one_turn [] c [] (t ∷ ts) a b = absurd b
one_turn [] c (s ∷ ss) ts a b = absurd a
one_turn (l ∷ ls) c [] ts a b = absurd a
one_turn (l ∷ ls) c (s ∷ ss) [] a b = absurd b
one_turn (l ∷ ls) c (s ∷ ss) (t ∷ ts) a b =
    let same : s ≡ t = says_is_function (cells_at c l) s t a.0 b.0 in
    let rest : ss ≡ ts =
    one_turn ls (changed_by (steps_in c l s) c) ss ts a.1
    (subst (λ (x : Saying). SayInTurn (changed_by (steps_in c l x) c) ls ts) (sym same) b.1) in
    ap (λ (x : Saying). x ∷ ss) same ∙ ap (λ (xs : List Saying). t ∷ xs) rest

pub scrubs_is_function : ScrubsIsFunction
scrubs_is_function c words entries a b one other =
    one.are
    ∙ ap (λ (ss : List Saying). scrub_acts c (looked_at words entries) ss)
    (one_turn (looked_at words entries) c one.sayings other.sayings one.said other.said)
    ∙ sym other.are

-- ---- some list of acts

either_writes : (of : ℕ → ℕ → List ℕ → Type 0) (b : Bool) (xs ys : List Step) → AreWrites of xs → AreWrites of ys →
    AreWrites of (cond b xs ys)
either_writes of true xs ys here there = here
either_writes of false xs ys here there = there

mending_whole : (c : Cartridge) (segment : ℕ) (places : List ℕ) (sectors : List (List ℕ)) → All IsSector sectors →
    AreWrites IsOfSector (mending_writes c segment places sectors)
mending_whole c segment [] sectors are = tt
mending_whole c segment (place ∷ places) [] are = tt
mending_whole c segment (place ∷ places) (bytes ∷ sectors) are =
    let rest = mending_whole c segment places sectors (All-tail IsSector bytes sectors are) in
    either_writes IsOfSector (is_unreadable (view_at c segment place))
    (write_sector segment place bytes ∷ mending_writes c segment places sectors)
    (mending_writes c segment places sectors) ((All-head IsSector bytes sectors are, tt), rest) rest

block_sectors : (c : Cartridge) (l : Looked) (sectors : List (List ℕ)) → Says (cells_at c l) (Data sectors) →
    All IsSector (with_parity sectors)
block_sectors c l sectors says =
    let are = (said_are_sectors (cells_at c l) sectors says).each in
    All-append IsSector sectors (parity_sectors sectors) are
    (parity_sectors-are_sectors sectors are)

pub steps_whole : (c : Cartridge) (l : Looked) (s : Saying) → Says (cells_at c l) s → AreWrites IsOfSector (steps_in c l s)
steps_whole c l (Data sectors) says =
    either_writes IsOfSector (reads l (Data sectors)) (mending_writes c l.segment (usable_places l.mask) (with_parity sectors)) []
    (mending_whole c l.segment (usable_places l.mask) (with_parity sectors) (block_sectors c l sectors says)) tt
steps_whole c l (LostSectors n) says = tt
steps_whole c l Mismatch says = tt

-- what the writes of one segment leave is a cartridge
mended_whole : (c : Cartridge) (l : Looked) (s : Saying) → IsCartridge c → Says (cells_at c l) s →
    IsCartridge (changed_by (steps_in c l s) c)
mended_whole c l s whole says =
    let steps : List Step = steps_in c l s in
    subst (λ (o : Option Cartridge). IsSomeAnd o IsCartridge) (effects-some steps c)
    (sector_writes_are_cartridge c steps (effects steps (Some c)) whole (steps_whole c l s says) (Torn-all steps (Some c)))

some_turn : (ls : List Looked) (c : Cartridge) → IsCartridge c → (ss : List Saying) × SayInTurn c ls ss
some_turn [] c whole = ([], tt)
some_turn (l ∷ ls) c whole =
    let here = says_always (cells_at c l) (cells_are_views c l.segment l.mask whole) in
    let rest = some_turn ls (changed_by (steps_in c l here.0) c) (mended_whole c l here.0 whole here.1) in
    (here.0 ∷ rest.0, (here.1, rest.1))

pub scrubs_always : ScrubsAlways
scrubs_always c words entries whole =
    let all = some_turn (looked_at words entries) c whole in
    (scrub_acts c (looked_at words entries) all.0, record { sayings = all.0; said = all.1; are = refl })

-- ---- header copies

pub copy_is_looked_at : CopyIsLookedAt
copy_is_looked_at c copy saying small says =
    let front : nat_lt copy 2 ≡ true = lt-ltb copy 2 small in
    (λ is. reads_then saying front says is, λ copy_reads. then_reads saying front says copy_reads)
  where
    reads_then : (s : Saying) → nat_lt copy 2 ≡ true → Says (copy_cells c copy) s → reads (whole_segment copy) s ≡ true →
        (area : List (List ℕ)) × CopyReads c copy area
    reads_then (Data sectors) front said is =
        (sectors, record { says = said; signature = sym (ap (λ (b : Bool). cond b (has_signature sectors) true) front) ∙ is })
    reads_then (LostSectors n) front said is = absurd (false≢true is)
    reads_then Mismatch front said is = absurd (false≢true is)

    then_reads : (s : Saying) → nat_lt copy 2 ≡ true → Says (copy_cells c copy) s → (area : List (List ℕ)) × CopyReads c copy area →
        reads (whole_segment copy) s ≡ true
    then_reads s front said copy_reads =
        subst (λ (x : Saying). reads (whole_segment copy) x ≡ true)
        (says_is_function (copy_cells c copy) (Data copy_reads.0) s copy_reads.1.says said)
        (ap (λ (b : Bool). cond b (has_signature copy_reads.0) true) front ∙ copy_reads.1.signature)
