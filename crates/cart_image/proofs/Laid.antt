-- Each call but `renew` and `upgrade` leaves the layout of the image as it was.
use Rattle.std.proofs.Common.{◌≡◌, ℕ, ◌+◌, ◌*◌, ◌<◌, ◌≤◌, inl, inr, ⊎_elim, Bool, true, false, List, [], ◌∷◌, length, refl, sym, ◌∙◌}
use Rattle.std.proofs.Common.{ap, arith, Option, Some, None, is_some, subst, Result, Ok, Err}
use Rattle.std.specs.Prelude.{◌==◌, if◌then◌else◌}
use Rattle.qic_base.specs.declared.tape.SectorView.{SectorView}
use Rattle.qic_base.specs.declared.tape.SectorView.TheVariants.{Blank, Defect, Lost, Holds}
use Rattle.qic_base.specs.Disk.{Meaning, DiskStep, Look, WriteAt, SetLen, Sync, IsSettled}
use Rattle.cart_image.specs.declared.layout.Layout.{Layout}
use Rattle.cart_image.specs.declared.layout.Part.{Part}
use Rattle.cart_image.specs.declared.layout.Part.TheVariants.{GateByte, FormedByte, DefectByte, Data}
use Rattle.cart_image.specs.Image.{layout_of}
use Rattle.cart_image.specs.Layout.{sectors, end_of, width, place, put, mark_byte, open_gate, closed_gate, formed_byte, defect_byte, fill}
use Rattle.cart_image.specs.Layout.{fill_writes, even, those, is_open, is_usable, is_unformed, wear_steps, spoil_steps}
use Rattle.cart_image.specs.Layout.{mark_steps, format_plan, format_segment_steps, chosen_by, overwrite_all}
use Rattle.qic_base.specs.TapeCalls.{is_readable}
use Rattle.cart_image.specs.Several.{takes_write}
use Rattle.cart_image.specs.Layout.{write_sectors_steps}
use Rattle.cart_image.specs.Run.{Carried, Went, after_steps}
use Rattle.cart_image.specs.Several.{AreSectors}
use Rattle.cart_image.proofs.Fills.{OffChosen, fill-spares, length-even}
use Rattle.cart_image.proofs.Formats.{those-length}
use Rattle.cart_image.proofs.Heads.{TellsLayout, layout-same}
use Rattle.cart_image.proofs.Layouts.{laid_out}
use Rattle.cart_image.proofs.Overwrites.{joined, length-chosen, length-sectors}
use Rattle.cart_image.proofs.Runs.{Passes, Passes-Passes, Looks-Passes, Failed-Passes, Ran-Passes, Halted-Passes, Ran-told, Halted-told}
use Rattle.cart_image.proofs.Stages.{within-chosen}
use Rattle.cart_image.proofs.Writes.{SameAt, SameAt-all, Spares, Spares-both, Spares-synced, spared, spared-crash}

Spares-less : (P Q : ℕ → Type 0) (len : ℕ) (steps : List DiskStep) → ((k : ℕ) → P k → Q k) → Spares Q len steps → Spares P len steps
Spares-less P Q len [] less spares = tt
Spares-less P Q len (Look ∷ steps) less spares = Spares-less P Q len steps less spares
Spares-less P Q len (Sync ∷ steps) less spares = Spares-less P Q len steps less spares
Spares-less P Q len (SetLen n ∷ steps) less spares = absurd spares
Spares-less P Q len (WriteAt place part ∷ steps) less spares =
    (spares.0, (λ k at. spares.1 k (less k at)), Spares-less P Q len steps less spares.2)

low : (k : ℕ) → TellsLayout k → k < 24
low k (inl below) = omega arith
low k (inr inside) = inside.1

-- what is written behind the head
put-spares : (len at : ℕ) (part : List ℕ) → 64 ≤ at → at + length part ≤ len → Spares TellsLayout len (put at part)
put-spares len at part behind fits = (fits, (λ k tells. let b = low k tells in inl (omega arith)), tt)

module _ (l : Layout) (len : ℕ) (room : end_of l ≤ len) where
  part-spares : (p : Part) (q : ℕ) (part : List ℕ) → q < sectors l.segments_per_track → length part ≡ width p →
      Spares TellsLayout len (put (place l p q) part)
  part-spares p q part on long =
      let behind = (laid_out l).behind p q on in
      let before = (laid_out l).before p q on in
      put-spares len (place l p q) part behind (omega arith)

  pub wear-spares : (q : ℕ) (v : SectorView) → q < sectors l.segments_per_track → Spares TellsLayout len (wear_steps l q v)
  wear-spares q Blank on = tt
  wear-spares q Defect on = tt
  wear-spares q Lost on = tt
  wear-spares q (Holds old) on = part-spares GateByte q (closed_gate ∷ []) on refl

  pub spoil-spares : (q : ℕ) (v : SectorView) → q < sectors l.segments_per_track → Spares TellsLayout len (spoil_steps l q v)
  spoil-spares q Blank on = part-spares DefectByte q (defect_byte ∷ []) on refl
  spoil-spares q Defect on = tt
  spoil-spares q Lost on = tt
  spoil-spares q (Holds old) on = tt

  -- .. in chosen sectors of a segment
  pub filling-spares : (p : Part) (values : List ℕ) (segment : ℕ) (chosen : List Bool) → length values ≡ width p * 32 →
      length chosen ≡ 32 → segment < 28 * l.segments_per_track → Spares TellsLayout len (fill l p values (32 * segment) chosen)
  filling-spares p values segment chosen long_values long on =
      Spares-synced TellsLayout len (fill_writes l p values (32 * segment) 0 chosen 0)
      (Spares-less TellsLayout (OffChosen l p (32 * segment) chosen) len (fill_writes l p values (32 * segment) 0 chosen 0)
      (λ k tells i is.
      let b = low k tells in
      let inside = within-chosen chosen long i is in
      let behind = (laid_out l).behind p (32 * segment + i) (omega arith) in
      inl (omega arith))
      (fill-spares l p values len room (32 * segment) long_values (omega arith) chosen (omega arith)))

  forming-spares : (p : Part) (value segment : ℕ) (f : ℕ → Bool) → segment < 28 * l.segments_per_track →
      Spares TellsLayout len (fill l p (even p value) (32 * segment) (those segment f))
  forming-spares p value segment f on =
      filling-spares p (even p value) segment (those segment f) (length-even p value) (those-length segment f) on

  pub format-spares : (segment : ℕ) (bytes : List ℕ) → segment < 28 * l.segments_per_track →
      Spares TellsLayout len (format_plan l segment bytes)
  unfolding format_segment_steps
  format-spares segment bytes on =
      Spares-both TellsLayout len (fill l GateByte (even GateByte closed_gate) (32 * segment) (those segment (is_open l bytes))) _
      (forming-spares GateByte closed_gate segment (is_open l bytes) on)
      (Spares-both TellsLayout len (fill l Data (even Data 0) (32 * segment) (those segment (is_usable l bytes))) _
      (forming-spares Data 0 segment (is_usable l bytes) on)
      (Spares-both TellsLayout len (fill l FormedByte (even FormedByte formed_byte) (32 * segment) (those segment (is_unformed l bytes)))
      (fill l GateByte (even GateByte open_gate) (32 * segment) (those segment (is_usable l bytes)))
      (forming-spares FormedByte formed_byte segment (is_unformed l bytes) on)
      (forming-spares GateByte open_gate segment (is_usable l bytes) on)))

  pub overwrite-spares : (segment written : ℕ) (from : List (List ℕ)) (views : List SectorView) → AreSectors from →
      segment < 28 * l.segments_per_track → Spares TellsLayout len (write_sectors_steps l segment written from views)
  unfolding overwrite_all
  overwrite-spares segment written from views are on =
      Spares-both TellsLayout len (fill l GateByte (even GateByte closed_gate) (32 * segment) (chosen_by written views is_readable)) _
      (filling-spares GateByte (even GateByte closed_gate) segment (chosen_by written views is_readable) (length-even GateByte closed_gate)
      (length-chosen written views is_readable) on)
      (Spares-both TellsLayout len (fill l Data (joined from) (32 * segment) (chosen_by written views takes_write))
      (fill l GateByte (even GateByte open_gate) (32 * segment) (chosen_by written views takes_write))
      (filling-spares Data (joined from) segment (chosen_by written views takes_write) (length-sectors from are)
      (length-chosen written views takes_write) on)
      (filling-spares GateByte (even GateByte open_gate) segment (chosen_by written views takes_write) (length-even GateByte open_gate)
      (length-chosen written views takes_write) on))

-- a mark is no byte that tells the layout
pub mark-spares : (len at : ℕ) (on : Bool) (byte : ℕ) → 12 ≤ at → at < 14 → 24 ≤ len → Spares TellsLayout len (mark_steps at on byte)
mark-spares len at on byte late early long = by_mark on (byte == mark_byte)
  where
    off : (value : ℕ) → Spares TellsLayout len (put at (value ∷ []))
    off value = (omega arith, (λ k tells. ⊎_elim (λ below. inl (omega arith)) (λ inside. let a = inside.0 in inr (omega arith)) tells), tt)

    by_mark : (on : Bool) (set : Bool) → Spares TellsLayout len (mark_steps at on byte)
    by_mark true set = by_set (byte == mark_byte)
      where
        by_set : (b : Bool) → Spares TellsLayout len (if b then [] else put at (mark_byte ∷ []))
        by_set true = tt
        by_set false = off mark_byte
    by_mark false set = by_set (byte == mark_byte)
      where
        by_set : (b : Bool) → Spares TellsLayout len (if b then put at (0 ∷ []) else [])
        by_set true = off 0
        by_set false = tt

-- what a call whose plan spares them leaves
pub some_told : (told now : Option (List ℕ)) (left : List ℕ) → is_some now ≡ is_some told → now ≡ Some left → (bytes : List ℕ)
    × (told ≡ Some bytes)
some_told None now left same is = let e : is_some now ≡ true = ap is_some is in cc
some_told (Some bytes) now left same is = (bytes, refl)

pub carried-passes : {D T E : Type 0} (m : Meaning D) (old new : D) (steps : List DiskStep) (result : Result T E) →
    Went m old new steps result → Passes m old new
carried-passes m old new steps (Ok x) went = Passes-Passes (Looks-Passes went.1) (Ran-Passes m went.0 new steps went.2)
carried-passes m old new steps (Err e) went = Passes-Passes (Looks-Passes went.1) (elim went.2 [
  | inl failed ↦ Failed-Passes failed
  | inr halted ↦ Halted-Passes m went.0 new steps halted
])

went-kept : {D T E : Type 0} (m : Meaning D) (old new : D) (steps : List DiskStep) (result : Result T E) (bytes left : List ℕ) →
    IsSettled m old → Went m old new steps result → m.told old ≡ Some bytes → m.told new ≡ Some left
    → Spares TellsLayout (length bytes) steps → SameAt TellsLayout bytes left
went-kept m old new steps (Ok x) bytes left settled went told now spares =
    let e : Some left ≡ Some (after_steps steps bytes) = sym now ∙ Ran-told m went.0 new steps bytes (went.1.told ∙ told) went.2 in
    let same : left ≡ after_steps steps bytes = cc in
    let P : List ℕ → Type 0 = λ b. SameAt TellsLayout bytes b in
    subst P (sym same) (spared TellsLayout steps bytes bytes spares (SameAt-all _ bytes))
went-kept m old new steps (Err e) bytes left settled went told now spares =
    elim went.2 [
      | inl failed ↦
          let inside = failed.torn left now in
          let same : left ≡ bytes = settled.only bytes left told (went.1.leaves left (subst (m.may_leave went.0) (sym inside.2) inside.1))
          in
          let P : List ℕ → Type 0 = λ b. SameAt TellsLayout bytes b in
          subst P (sym same) (SameAt-all _ bytes)
      | inr halted ↦
          spared-crash TellsLayout steps bytes bytes left (λ b. b ≡ bytes) spares (SameAt-all _ bytes)
          (λ b same. let P : List ℕ → Type 0 = λ c. SameAt TellsLayout bytes c in subst P (sym same) (SameAt-all _ bytes))
          (Halted-told m went.0 new steps bytes left (λ b. b ≡ bytes) (went.1.told ∙ told)
          (λ b is. settled.only bytes b told (went.1.leaves b is)) halted now)
    ]

pub carried-laid : {D T E : Type 0} (m : Meaning D) (old new : D) (plan : List ℕ → List DiskStep) (result : Result T E) (l : Layout) →
    IsSettled m old → Carried m old new plan result
    → ((bytes : List ℕ) → m.told old ≡ Some bytes → (layout_of bytes ≡ Some l) × (64 ≤ length bytes) × Spares TellsLayout (length bytes)
    (plan bytes))
    → (left : List ℕ) → m.told new ≡ Some left → layout_of left ≡ Some l
carried-laid m old new plan result l settled carried was left now =
    let passes = carried-passes m old new carried.steps result carried.went in
    let b = some_told (m.told old) (m.told new) left passes.tells now in
    let w = was b.0 b.1 in
    let P : List DiskStep → Type 0 = λ ss. Spares TellsLayout (length b.0) ss in
    let kept = went-kept m old new carried.steps result b.0 left settled carried.went b.1 now
    (subst P (sym (carried.planned b.0 b.1)) w.2) in
    layout-same b.0 left (let long = w.1 in omega arith) kept.size kept.same ∙ w.0
