-- A copy comes to one status and one text.
use Rattle.std.proofs.Common.{◌⊎◌, ◌≡◌, ◌≢◌, ℕ, true, false, List, [], ◌∷◌, ◌++◌, Option, Some, None, inl, inr, refl, sym, ap, ◌∙◌, subst}
use Rattle.cartridge_laws.proofs.MountOnce.{mounts_is_function, one_table, not_lost}
use Rattle.cartridge_laws.proofs.TableSayings.{table_says_is_function}
use Rattle.cartridge_spec.specs.TableSegment.{table_cells}
use Rattle.cartridge_spec.specs.Mounting.{Mounting}
use Rattle.cartridge_spec.specs.Says.{ByCode, LostSectors}
use Rattle.cartridge_spec.specs.Table.{Entry}
use Rattle.command_laws.proofs.MadeAnswered.{quiet_front}
use Rattle.command_laws.proofs.MadeMachineLaws.{never_unlocked}
use Rattle.command_laws.proofs.RestoreEndings.{restores_is_function}
use Rattle.command_laws.proofs.RestoreGiven.{given_is_function}
use Rattle.command_laws.proofs.ScriptActs.{input_texts}
use Rattle.command_laws.specs.CopyLaws.{CopiesAlike, CopiesOneThing}
use Rattle.command_spec.specs.Copying.{Compares, Copies, CopiesVolume, CopyOutcome, DoneOf, FromMounted, IsBegun, IsFull, IsGiven, Side}
use Rattle.command_spec.specs.Copying.{ToDoes, ToMounted, behind_copy, first_difference, giving_status, has_room_for, kept_on, length_on}
use Rattle.command_spec.specs.Copying.{missing, side_of}
use Rattle.command_spec.specs.Outcome.{settling_act}
use Rattle.command_spec.specs.Restore.{GivingEnd, LostIn, MismatchIn, Restored, pieces}
use Rattle.command_spec.specs.declared.copy_status.CopyStatus.{CopyStatus}
use Rattle.qic_base.proofs.Joins.{text_of-append}
use Rattle.qic_base.specs.Acts.{Act, text_of}
use Rattle.qic_base.specs.Cartridge.{Cartridge}
use Rattle.cartridge_spec.specs.Mounting as mounting
use Rattle.qic_base.specs.declared.store_fault.StoreFault.TheVariants as fault
use Rattle.command_spec.specs.declared.copy_status.CopyStatus.TheVariants as status

-- the same answer and text, and at Done the same acts
pub record Same (a b : List Act) (x y : CopyStatus) : Type 0 where
  pub answer : x ≡ y
  pub text : text_of a ≡ text_of b
  pub acts : x ≡ status.Done → a ≡ b

same_all : (a b : List Act) (x y : CopyStatus) → a ≡ b → x ≡ y → Same a b x y
same_all a b x y acts answer = record { answer = answer; text = ap text_of acts; acts = λ done. acts }

pub done_or_not : (x : CopyStatus) → (x ≡ status.Done) ⊎ (x ≢ status.Done)
done_or_not status.Done = inl refl
done_or_not status.Usage = inr (λ is. cc)
done_or_not status.NoMemory = inr (λ is. cc)
done_or_not status.FromAbsent = inr (λ is. cc)
done_or_not status.ToAbsent = inr (λ is. cc)
done_or_not (status.From found) = inr (λ is. cc)
done_or_not (status.To found) = inr (λ is. cc)
done_or_not (status.Differs number) = inr (λ is. cc)
done_or_not status.SinkFault = inr (λ is. cc)

-- ---- one volume

-- acts that were begun print nothing
pub begun_text : (from : Side) (e : Entry) (to : Side) (table : List (List ℕ)) (bytes : List ℕ) (acts : List Act) →
    IsBegun from e to table bytes acts → text_of acts ≡ []
begun_text from e to table bytes acts begun =
    quiet_front acts begun.rest _ begun.parts (input_texts (kept_on to table) (Some (length_on from e)) bytes)

module _ (from : Side) (e : Entry) (to : Side) where
  one_given : (table : List (List ℕ)) (a b : List Act) (x y : CopyStatus) → IsGiven from e to table a x → IsGiven from e to table b y →
      Same a b x y
  one_given table a b x y one other =
      let bytes : one.bytes ≡ other.bytes = given_is_function from.cartridge from.words
      (pieces from.words e) one.bytes other.bytes one.given other.given in
      let ending : one.ending ≡ other.ending =
      (restores_is_function from.cartridge from.words (pieces from.words e) one.read other.read one.ending other.ending one.restores
      other.restores).1 in
      by_ending other.ending
      (subst (λ (bs : List ℕ). DoneOf from e to table bs other.ending a) bytes
      (subst (λ (end : GivingEnd). DoneOf from e to table one.bytes end a) ending one.does))
      other.does (one.answered ∙ ap giving_status ending) other.answered
    where
      by_ending : (ending : GivingEnd) → DoneOf from e to table other.bytes ending a → DoneOf from e to table other.bytes ending b →
          x ≡ giving_status ending →
          y ≡ giving_status ending → Same a b x y
      by_ending Restored p q is was = same_all a b x y (p ∙ sym q) (is ∙ sym was)
      by_ending (LostIn segment lost) p q is was = record {
        answer = is ∙ sym was;
        text = begun_text from e to table other.bytes a p ∙ sym (begun_text from e to table other.bytes b q);
        acts = λ done. absurd (let no : status.From (fault.Lost segment lost) ≡ status.Done = sym is ∙ done in cc);
      }
      by_ending (MismatchIn segment) p q is was = record {
        answer = is ∙ sym was;
        text = begun_text from e to table other.bytes a p ∙ sym (begun_text from e to table other.bytes b q);
        acts = λ done. absurd (let no : status.From (fault.Mismatch segment) ≡ status.Done = sym is ∙ done in cc);
      }

  same_room : has_room_for from e to ≡ true → has_room_for from e to ≡ false → ⊥
  same_room enough none = let no : true ≡ false = sym enough ∙ none in cc

  one_append : (table : List (List ℕ)) (a b : List Act) (x y : CopyStatus) → IsFull from e to table a x ⊎ IsGiven from e to table a x →
      IsFull from e to table b y ⊎ IsGiven from e to table b y → Same a b x y
  one_append table a b x y (inl one) (inl other) = same_all a b x y (one.does ∙ sym other.does) (one.answered ∙ sym other.answered)
  one_append table a b x y (inl one) (inr other) = absurd (same_room other.room one.none)
  one_append table a b x y (inr one) (inl other) = absurd (same_room one.room other.none)
  one_append table a b x y (inr one) (inr other) = one_given table a b x y one other

  pub volume_one : (a b : List Act) (x y : CopyStatus) → CopiesVolume from e to a x → CopiesVolume from e to b y → Same a b x y
  volume_one a b x y (inl one) (inl other) =
      let lost : ByCode (LostSectors one.lost) ≡ ByCode (LostSectors other.lost) =
      table_says_is_function (table_cells to.cartridge) (ByCode (LostSectors one.lost))
      (ByCode (LostSectors other.lost)) one.says other.says in
      let same : one.lost ≡ other.lost = cc in
      same_all a b x y (one.does ∙ sym other.does) (one.answered ∙ ap (λ (n : ℕ). status.To (fault.Lost 2 n)) same ∙ sym other.answered)
  volume_one a b x y (inl one) (inr (table, reads, other)) = absurd (not_lost to.cartridge table one.lost reads one.says)
  volume_one a b x y (inr (table, reads, one)) (inl other) = absurd (not_lost to.cartridge table other.lost reads other.says)
  volume_one a b x y (inr (table, reads, one)) (inr (again, read, other)) =
      let same : table ≡ again = one_table to.cartridge table again reads read in
      one_append again a b x y (subst (λ (t : List (List ℕ)). IsFull from e to t a x ⊎ IsGiven from e to t a x) same one) other

-- ---- volumes one after the other

copies_one : (from : Side) (es : List Entry) (to : Side) (a b : List Act) (x y : CopyStatus) → Copies from es to a x →
    Copies from es to b y → Same a b x y
copies_one from [] to a b x y one other = same_all a b x y (one.0 ∙ sym other.0) (one.1 ∙ sym other.1)
copies_one from (e ∷ es) to a b x y (inl (p, one)) (inl (q, other)) = volume_one from e to a b x y one other
copies_one from (e ∷ es) to a b x y (inl (p, one)) (inr (first, rest, parts, does, more)) =
    absurd (p (volume_one from e to a first x status.Done one does).answer)
copies_one from (e ∷ es) to a b x y (inr (first, rest, parts, does, more)) (inl (q, other)) =
    absurd (q (volume_one from e to b first y status.Done other does).answer)
copies_one from (e ∷ es) to a b x y (inr (first, rest, parts, does, more)) (inr (front, rear, joined, did, behind)) =
    let same : first ≡ front = (volume_one from e to first front status.Done status.Done does did).acts refl in
    let both = copies_one from es (behind_copy from e to front) rest rear x y
    (subst (λ (zs : List Act). Copies from es (behind_copy from e to zs) rest x) same more) behind in
    record {
      answer = both.answer;
      text = ap text_of (sym parts) ∙ text_of-append first rest ∙ ap (λ (zs : List Act). text_of zs ++ text_of rest) same
          ∙ ap (λ (text : List ℕ). text_of front ++ text) both.text ∙ sym (text_of-append front rear) ∙ ap text_of joined;
      acts = λ done. sym parts ∙ ap (λ (zs : List Act). zs ++ rest) same ∙ ap (λ (zs : List Act). front ++ zs) (both.acts done) ∙ joined;
    }

-- ---- the outcome

compares_one : (from to : Side) (difference : Option ℕ) (a b : List Act) (x y : CopyStatus) → Compares from to difference a x →
    Compares from to difference b y → Same a b x y
compares_one from to (Some number) a b x y one other = same_all a b x y (one.0 ∙ sym other.0) (one.1 ∙ sym other.1)
compares_one from to None a b x y one other = copies_one from (missing from to) to a b x y one other

same_behind : (act : Act) (a b more rest : List Act) (x y : CopyStatus) → a ≡ act ∷ more → b ≡ act ∷ rest → Same more rest x y →
    Same a b x y
same_behind act a b more rest x y p q same = record {
  answer = same.answer;
  text = ap text_of p ∙ ap (λ (text : List ℕ). act.text ++ text) same.text ∙ sym (ap text_of q);
  acts = λ done. p ∙ ap (λ (zs : List Act). act ∷ zs) (same.acts done) ∙ sym q;
}

to_mounted_one : (from : Side) (c : Cartridge) (m : Mounting) (a b : List Act) (x y : CopyStatus) → ToMounted from c m a x →
    ToMounted from c m b y → Same a b x y
to_mounted_one from c mounting.NotFormatted a b x y one other = same_all a b x y (one.0 ∙ sym other.0) (one.1 ∙ sym other.1)
to_mounted_one from c (mounting.Foreign found) a b x y one other = same_all a b x y (one.0 ∙ sym other.0) (one.1 ∙ sym other.1)
to_mounted_one from c (mounting.TableLost lost) a b x y one other = same_all a b x y (one.0 ∙ sym other.0) (one.1 ∙ sym other.1)
to_mounted_one from c mounting.TableMismatch a b x y one other = same_all a b x y (one.0 ∙ sym other.0) (one.1 ∙ sym other.1)
to_mounted_one from c (mounting.Mounted header words table entries) a b x y (inl one) (inl other) =
    same_all a b x y (one.1 ∙ sym other.1) (one.2 ∙ sym other.2)
to_mounted_one from c (mounting.Mounted header words table entries) a b x y (inl one) (inr other) = absurd (never_unlocked c one.0 other.0)
to_mounted_one from c (mounting.Mounted header words table entries) a b x y (inr one) (inl other) = absurd (never_unlocked c other.0 one.0)
to_mounted_one from c (mounting.Mounted header words table entries) a b x y (inr (free, (more, p, one))) (inr (again, (rest, q, other))) =
    same_behind (settling_act table c) a b more rest x y p q
    (compares_one from (side_of c words table entries) (first_difference from (side_of c words table entries)) more rest x y one other)

to_one : (from : Side) (to : Option Cartridge) (a b : List Act) (x y : CopyStatus) → ToDoes from to a x → ToDoes from to b y → Same a b x y
to_one from None a b x y one other = same_all a b x y (one.0 ∙ sym other.0) (one.1 ∙ sym other.1)
to_one from (Some c) a b x y (m, mounts, one) (n, also, other) =
    let same : m ≡ n = mounts_is_function c m n mounts also in
    to_mounted_one from c n a b x y (subst (λ (k : Mounting). ToMounted from c k a x) same one) other

same_outcome : (one other : CopyOutcome) → one ≡ other → CopiesAlike one other
same_outcome one other is = record {
  status = ap (λ (o : CopyOutcome). o.status) is;
  text = ap (λ (o : CopyOutcome). text_of o.acts) is;
  settling = ap (λ (o : CopyOutcome). o.settling) is;
}

from_mounted_one : (c : Cartridge) (m : Mounting) (to : Option Cartridge) (one other : CopyOutcome) → FromMounted c m to one →
    FromMounted c m to other → CopiesAlike one other
from_mounted_one c mounting.NotFormatted to one other p q = same_outcome one other (p ∙ sym q)
from_mounted_one c (mounting.Foreign found) to one other p q = same_outcome one other (p ∙ sym q)
from_mounted_one c (mounting.TableLost lost) to one other p q = same_outcome one other (p ∙ sym q)
from_mounted_one c mounting.TableMismatch to one other p q = same_outcome one other (p ∙ sym q)
from_mounted_one c (mounting.Mounted header words table entries) to one other p q =
    let same = to_one (side_of c words table entries) to one.acts other.acts one.status other.status p.1 q.1 in
    record { status = same.answer; text = same.text; settling = p.0 ∙ sym q.0 }

pub copies_one_thing : CopiesOneThing
copies_one_thing None to one other p q = same_outcome one other (p ∙ sym q)
copies_one_thing (Some c) to one other (m, mounts, p) (n, also, q) =
    let same : m ≡ n = mounts_is_function c m n mounts also in
    from_mounted_one c n to one other (subst (λ (k : Mounting). FromMounted c k to one) same p) q
