-- What a line does is one thing.
use Rattle.std.proofs.Common.{◌≡◌, ℕ, List, inl, inr, true, refl, false, ap, ◌∙◌, sym, Some, subst, None}
use Rattle.cartridge_laws.proofs.TableSayings.{table_says_is_function}
use Rattle.cartridge_spec.specs.TableSegment.{table_cells, TableIs}
use Rattle.cartridge_spec.specs.Says.{ByCode, LostSectors, TableSays}
use Rattle.cartridge_spec.specs.Table.{Entry}
use Rattle.command_laws.proofs.RestoreEndings.{restores_is_function}
use Rattle.command_laws.proofs.ScrubOneWrong.{form_is_function}
use Rattle.command_spec.specs.Restore.{framed, pieces, Restores}
use Rattle.command_spec.specs.Script.{Meeting, Refuses, Finds, Meets, Did, given_as, LineDoes, append_did}
use Rattle.command_laws.specs.RestoreTerms.{RestoreDoes}
use Rattle.command_spec.specs.declared.depth.Depth.TheVariants.{Shallow}
use Rattle.command_spec.specs.declared.line.Line.{Line}
use Rattle.qic_base.specs.Acts.{Act}
use Rattle.qic_base.specs.Cartridge.{Cartridge}
use Rattle.cartridge_laws.proofs.MountOnce.{one_table, not_lost}
use Rattle.command_spec.specs.declared.refusal.Refusal.TheVariants as why
use Rattle.command_spec.specs.Restore as restoring
use Rattle.command_spec.specs.declared.line.Line.TheVariants as line

-- ---- what an append meets

-- a protected cartridge is met so
meets_protected : (c : Cartridge) (m : Meeting) → c.info.protected ≡ true → Meets c m → m ≡ Refuses why.Protected
meets_protected c (Refuses why.Protected) mark meets = refl
meets_protected c (Refuses (why.Lost segment lost)) mark meets = let off = meets.0 in absurd (cc)
meets_protected c (Refuses (why.Full need have)) mark meets = absurd meets
meets_protected c (Refuses (why.NoVolume number count)) mark meets = absurd meets
meets_protected c (Refuses (why.Mismatch segment)) mark meets = absurd meets
meets_protected c (Refuses (why.Place segment sector)) mark meets = absurd meets
meets_protected c (Finds table) mark meets = let off = meets.0 in absurd (cc)

-- .. and a table that is lost
meets_lost : (c : Cartridge) (m : Meeting) (lost : ℕ) → c.info.protected ≡ false → TableSays (table_cells c) (ByCode (LostSectors lost)) →
    Meets c m →
    m ≡ Refuses (why.Lost 2 lost)
meets_lost c (Refuses why.Protected) lost mark says meets = absurd (cc)
meets_lost c (Refuses (why.Lost segment other)) lost mark says meets =
    let same : ByCode (LostSectors other) ≡ ByCode (LostSectors lost) =
    table_says_is_function (table_cells c) (ByCode (LostSectors other)) (ByCode (LostSectors lost)) meets.2 says in
    let count : other ≡ lost = cc in
    ap (λ (n : ℕ). Refuses (why.Lost n other)) meets.1 ∙ ap (λ (n : ℕ). Refuses (why.Lost 2 n)) count
meets_lost c (Refuses (why.Full need have)) lost mark says meets = absurd meets
meets_lost c (Refuses (why.NoVolume number count)) lost mark says meets = absurd meets
meets_lost c (Refuses (why.Mismatch segment)) lost mark says meets = absurd meets
meets_lost c (Refuses (why.Place segment sector)) lost mark says meets = absurd meets
meets_lost c (Finds table) lost mark says meets = absurd (not_lost c table lost meets.1 says)

-- .. and one that says data
meets_table : (c : Cartridge) (m : Meeting) (table : List (List ℕ)) → c.info.protected ≡ false → TableIs c table → Meets c m →
    m ≡ Finds table
meets_table c (Refuses why.Protected) table mark is meets = absurd (cc)
meets_table c (Refuses (why.Lost segment lost)) table mark is meets = absurd (not_lost c table lost is meets.2)
meets_table c (Refuses (why.Full need have)) table mark is meets = absurd meets
meets_table c (Refuses (why.NoVolume number count)) table mark is meets = absurd meets
meets_table c (Refuses (why.Mismatch segment)) table mark is meets = absurd meets
meets_table c (Refuses (why.Place segment sector)) table mark is meets = absurd meets
meets_table c (Finds other) table mark is meets = ap (λ (d : List (List ℕ)). Finds d) (one_table c other table meets.1 is)

-- what it meets is one thing
pub meets_one : (c : Cartridge) (m n : Meeting) → Meets c m → Meets c n → n ≡ m
meets_one c (Refuses why.Protected) n first second = meets_protected c n first second
meets_one c (Refuses (why.Lost segment lost)) n first second =
    meets_lost c n lost first.0 first.2 second ∙ ap (λ (k : ℕ). Refuses (why.Lost k lost)) (sym first.1)
meets_one c (Refuses (why.Full need have)) n first second = absurd first
meets_one c (Refuses (why.NoVolume number count)) n first second = absurd first
meets_one c (Refuses (why.Mismatch segment)) n first second = absurd first
meets_one c (Refuses (why.Place segment sector)) n first second = absurd first
meets_one c (Finds table) n first second = meets_table c n table first.0 first.1 second

-- ---- each line does one thing

-- what a restore has done, by its parts
abbrev pub given : (words : List ℕ) → List Entry → (number : ℕ) → Entry → List Act → restoring.GivingEnd → Did
given words entries number e acts ending = given_as words entries number e (framed (pieces words e) acts) ending

gives_one : (c : Cartridge) (words : List ℕ) (entries : List Entry) (number : ℕ) (a b : Did) → RestoreDoes c words entries number a →
    RestoreDoes c words entries number b → b ≡ a
gives_one c words entries number a b first second =
    let o : Some second.entry ≡ Some first.entry = sym second.numbered ∙ first.numbered in
    let e : second.entry ≡ first.entry = cc in
    let P : Entry → Type 0 = λ d. Restores c words (pieces words d) second.acts second.ending in
    let same = restores_is_function c words (pieces words first.entry) second.acts first.acts second.ending first.ending
    (subst P e second.restores) first.restores in
    second.is
    ∙ ap (λ (d : Entry). given words entries number d second.acts second.ending) e
    ∙ ap (λ (xs : List Act). given words entries number first.entry xs second.ending) same.0
    ∙ ap (λ (d : restoring.GivingEnd). given words entries number first.entry first.acts d) same.1
    ∙ sym first.is

pub line_one : (c : Cartridge) (words : List ℕ) (entries : List Entry) (asked : Line) (bytes : List ℕ) (a b : Did) →
    LineDoes c words entries asked bytes a →
    LineDoes c words entries asked bytes b → b ≡ a
line_one c words entries (line.Append name n date) bytes a b (m, meets, is) (other, again, too) =
    too ∙ ap (λ (x : Meeting). append_did c words entries name n date bytes x) (meets_one c m other meets again) ∙ sym is
line_one c words entries line.List bytes a b first second = second ∙ sym first
line_one c words entries (line.Restore number) bytes a b (inl (none, is)) (inl (again, too)) = too ∙ sym is
line_one c words entries (line.Restore number) bytes a b (inl (none, is)) (inr some) = let e : None ≡ Some some.entry = sym none
    ∙ some.numbered in absurd (cc)
line_one c words entries (line.Restore number) bytes a b (inr some) (inl (none, is)) = let e : None ≡ Some some.entry = sym none
    ∙ some.numbered in absurd (cc)
line_one c words entries (line.Restore number) bytes a b (inr first) (inr second) = gives_one c words entries number a b first second
line_one c words entries line.Scrub bytes a b (inl (mark, is)) (inl (again, too)) = too ∙ sym is
line_one c words entries line.Scrub bytes a b (inl (mark, is)) (inr (free, scrubs)) = absurd (cc)
line_one c words entries line.Scrub bytes a b (inr (free, scrubs)) (inl (mark, is)) = absurd (cc)
line_one c words entries line.Scrub bytes a b (inr (free, (xs, scrubs, is))) (inr (again, (ys, others, too))) =
    too ∙ ap (λ (zs : List Act). record { acts = zs; entries = entries }) (form_is_function Shallow c words entries ys xs others scrubs)
    ∙ sym is
line_one c words entries (line.Lose segment sector) bytes a b (inl (none, is)) (inl (again, too)) = too ∙ sym is
line_one c words entries (line.Lose segment sector) bytes a b (inl (none, is)) (inr (place, too)) = absurd (none place)
line_one c words entries (line.Lose segment sector) bytes a b (inr (place, is)) (inl (none, too)) = absurd (none place)
line_one c words entries (line.Lose segment sector) bytes a b (inr (place, is)) (inr (again, too)) = too ∙ sym is
line_one c words entries line.End bytes a b first second = absurd first
