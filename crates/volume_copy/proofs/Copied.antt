-- How a copy ends, by how its calls did.
use Rattle.std.proofs.Common.{◌≡◌, ℕ, ◌+◌, ◌≤◌, Bool, true, false, List, [], ◌∷◌, length, Option, Some, None, Result, Ok, Err, refl, ap}
use Rattle.std.proofs.Common.{sym, subst, ◌∙◌, arith, add-one, length-append}
use Rattle.std.specs.Prelude.{if◌then◌else◌}
use Rattle.cartridge_spec.specs.Table.{Entry}
use Rattle.cartridge_spec.specs.Volumes.{volume_length}
use Rattle.command_spec.specs.Copying.{difference, is_alike}
use Rattle.command_spec.specs.declared.copy_status.CopyStatus.{CopyStatus}
use Rattle.drive_states.specs.Unit.{UnitView}
use Rattle.qic_base.specs.Alone.{reading}
use Rattle.volume_copy.specs.Runs.{CopiesOne, CopyRuns, CopyView, HasCopied, HaveCopied, RunEnds, SideFits, SideView, Units, append_answer}
use Rattle.volume_copy.specs.Runs.{is_asked}
use Rattle.volume_copy.specs.Source.{SourceView, new_source, source_means}
use Rattle.volume_store.specs.Appending.{AppendEnds, FaultsUnread, InOrder}
use Rattle.volume_store.specs.Mounting.{StoreView}
use Rattle.volume_store.specs.declared.appended.Appended.{Appended}
use Rattle.qic_base.specs.declared.store_fault.StoreFault.{StoreFault}
use Rattle.command_spec.specs.declared.copy_status.CopyStatus.TheVariants as status
use Rattle.qic_base.specs.Sink as sinks
use Rattle.qic_base.specs.Tape as tapes

-- ---- the lists

by_test : {P : Type 0} (b : Bool) (rest : Option ℕ) (n : ℕ) → (if b then rest else Some n) ≡ None → (rest ≡ None → P) → P
by_test true rest n none more = more none
by_test false rest n none more = absurd (cc)

-- a target that doesn't differ has no more volumes
pub no_more : (words : List ℕ) (es : List Entry) (words' : List ℕ) (es' : List Entry) (n : ℕ) → difference words es words' es' n ≡ None →
    length es' ≤ length es
no_more words es words' [] n none = omega arith
no_more words [] words' (e' ∷ es') n none = absurd (cc)
no_more words (e ∷ es) words' (e' ∷ es') n none =
    by_test (is_alike words e words' e') (difference words es words' es' (n + 1)) n none
    (λ is. let shorter : length es' ≤ length es = no_more words es words' es' (n + 1) is in omega arith)

-- ---- the refusals

-- so a run that asked one ended as the whole does
pub runs_asked : {A B K : Type 0} (a : tapes.Meaning A) (b : tapes.Meaning B) (k : sinks.Meaning K) (old new : Units A B K)
    (answer : CopyStatus) → is_asked answer ≡ true → RunEnds a b k old new answer →
    CopyRuns a b k old new answer
runs_asked a b k old new status.Usage asked ends = absurd (cc)
runs_asked a b k old new status.NoMemory asked ends = absurd (cc)
runs_asked a b k old new answer asked ends = ends

-- ---- one volume

-- an append of a volume's bytes, from a source that is the same and with a length that is the same
pub ends_as : {A B : Type 0} (a : tapes.Meaning A) (b : tapes.Meaning B) (x y : B) (made old new : SourceView A) (store after : StoreView)
    (name : List ℕ) (date n m : ℕ) (r : Result Appended StoreFault) →
    made ≡ old → n ≡ m → AppendEnds b (source_means a) (reading x made) (reading y new) store after name date (Some n) r →
    AppendEnds b (source_means a) (reading x old) (reading y new) store after name date (Some m) r
ends_as {A = A} a b x y made old new store after name date n m r same long ends =
    subst (λ (s : SourceView A). AppendEnds b (source_means a) (reading x s) (reading y new) store after name date (Some m) r) same
    (subst (λ (k : ℕ). AppendEnds b (source_means a) (reading x made) (reading y new) store after name date (Some k) r) long ends)

pub unread_as : {A B : Type 0} (a : tapes.Meaning A) (b : tapes.Meaning B) (x y : B) (made old new : SourceView A)
    (r : Result Appended StoreFault) →
    made ≡ old → FaultsUnread b (source_means a) (reading x made) (reading y new) r → FaultsUnread b (source_means a) (reading x old)
    (reading y new) r
unread_as {A = A} a b x y made old new r same unread =
    subst (λ (s : SourceView A). FaultsUnread b (source_means a) (reading x s) (reading y new) r) same unread

pub order_as : {A B : Type 0} (a : tapes.Meaning A) (b : tapes.Meaning B) (x y : B) (made old new : SourceView A) (store : StoreView)
    (n m : ℕ) (r : Result Appended StoreFault) →
    made ≡ old → n ≡ m → InOrder b (source_means a) (reading x made) (reading y new) store (Some n) r →
    InOrder b (source_means a) (reading x old) (reading y new) store (Some m) r
order_as {A = A} a b x y made old new store n m r same long order =
    subst (λ (s : SourceView A). InOrder b (source_means a) (reading x s) (reading y new) store (Some m) r) same
    (subst (λ (k : ℕ). InOrder b (source_means a) (reading x made) (reading y new) store (Some k) r) long order)

-- sides of the same parts are the same
pub same_sides : {T : Type 0} (one other : SideView T) → one.store ≡ other.store → one.unit ≡ other.unit → one ≡ other
same_sides {T = T} one other store unit =
    let side : StoreView → UnitView T → SideView T = λ s u. record { store = s; unit = u } in
    ap (λ (s : StoreView). side s one.unit) store ∙ ap (λ (u : UnitView T). side other.store u) unit

-- ---- one volume more

-- both stores fit their units behind a volume that was copied, and the target has one more
pub record OneMore {A B : Type 0} (a : tapes.Meaning A) (b : tapes.Meaning B) (from after : SideView A) (to new : SideView B) : Type 0 where
  pub source : SideFits a after
  pub target : SideFits b new
  pub entries : after.store.entries ≡ from.store.entries
  pub more : length new.store.entries ≡ length to.store.entries + 1

pub one_more : {A B : Type 0} (a : tapes.Meaning A) (b : tapes.Meaning B) (number : ℕ) (from after : SideView A) (to new : SideView B)
    (bytes : ℕ) →
    CopiesOne a b number from after to new (Ok bytes) → OneMore a b from after to new
one_more {A = A} {B = B} a b number from after to new bytes one = by_answer one.appended refl
  where
    by_answer : (r : Result Appended StoreFault) → one.appended ≡ r → OneMore a b from after to new
    by_answer (Ok appended) is =
        let ended : Result Appended StoreFault → Type 0 =
        λ r. AppendEnds b (source_means a) (reading to.unit.tape (new_source from.store from.unit number))
        (reading new.unit.tape one.source)
        to.store new.store one.entry.name one.entry.date (Some (volume_length from.store.words one.entry)) r in
        let does : ended (Ok appended) = subst ended is one.ends in record {
          source = subst (λ (side : SideView A). SideFits a side) (sym one.back) one.sound.fits;
          target = one.fits (λ bad. cc);
          entries = ap (λ (side : SideView A). side.store.entries) one.back ∙ one.kept.store.entries;
          more = ap length does.added ∙ length-append to.store.entries (does.entry ∷ []);
        }
    by_answer (Err f) is =
        let no : Ok bytes ≡ append_answer (Err f) one.source.fault = one.is ∙ ap (λ (r : Result Appended StoreFault).
        append_answer r one.source.fault) is in absurd (cc)

pub copied_more : {A B K : Type 0} (a : tapes.Meaning A) (b : tapes.Meaning B) (k : sinks.Meaning K) (count : ℕ)
    (old mid new : CopyView A B K) →
    HaveCopied a b k count old mid → HasCopied a b k mid new → HaveCopied a b k (count + 1) old new
copied_more a b k count old mid new before one = rw add-one (mid, before, one)

-- the same copy of one volume, under equal numbers and answers
pub one_as : {A B : Type 0} (a : tapes.Meaning A) (b : tapes.Meaning B) (n m : ℕ) (from after : SideView A) (to new : SideView B)
    (r s : Result ℕ CopyStatus) → n ≡ m → r ≡ s →
    CopiesOne a b n from after to new r → CopiesOne a b m from after to new s
one_as a b n m from after to new r s number same one =
    subst (λ (q : Result ℕ CopyStatus). CopiesOne a b m from after to new q) same (subst (λ (p : ℕ). CopiesOne a b p from after to new r)
    number one)
