-- What the writes of the calls of one sector make of the cartridge, at the end and in a crash.
use Rattle.std.proofs.Common.{◌≡◌, ◌≢◌, ℕ, ◌+◌, ◌<◌, ◌≤◌, ◌⊎◌, inl, inr, Bool, true, false, List, [], ◌∷◌, ◌++◌, length, refl, sym, ◌∙◌, ap}
use Rattle.std.proofs.Common.{arith, Some, subst}
use Rattle.std.specs.Prelude.{slice_index, ◌==◌, if◌then◌else◌}
use Rattle.qic_base.specs.declared.tape.SectorView.{SectorView}
use Rattle.qic_base.specs.declared.tape.SectorView.TheVariants.{Blank, Defect, Lost, Holds}
use Rattle.qic_base.specs.Cartridge.{Cartridge, with_view, view_at}
use Rattle.qic_base.specs.CartridgeTerms.{place_of}
use Rattle.qic_base.specs.Disk.{DiskStep, TornRange}
use Rattle.qic_base.specs.Field.{overwritten}
use Rattle.qic_base.specs.Step.{Step, Wear, Spoil, effect, worn_view, spoiled_view, Torn}
use Rattle.qic_base.proofs.FieldLaws.{get_or-overwritten}
use Rattle.cart_image.specs.declared.layout.Head.{Head}
use Rattle.cart_image.specs.declared.layout.Layout.{Layout}
use Rattle.cart_image.specs.declared.layout.Part.TheVariants.{GateByte, FormedByte, DefectByte}
use Rattle.cart_image.specs.Layout.{sectors, place, end_of, open_gate, closed_gate, formed_byte, defect_byte, put}
use Rattle.cart_image.specs.Layout.{wear_steps, spoil_steps}
use Rattle.cart_image.specs.Image.{head_of, view_by, view_in, sector_bytes, read_as, cartridge_of}
use Rattle.cart_image.specs.Run.{Crashed}
use Rattle.cart_image.specs.Whole.{cartridge_of-read}
use Rattle.cart_image.proofs.Carries.{Means}
use Rattle.cart_image.proofs.Bytes.{OnlyIn, OnlyIn-torn, OnlyIn-written, byte-kept, data-kept, gate-view, defect-view}
use Rattle.cart_image.proofs.Bytes.{view_in-is}
use Rattle.cart_image.proofs.Changes.{Beside, Beside-part, cartridge-beside, same-view, view_at-read}
use Rattle.cart_image.proofs.Layouts.{laid_out}

-- a crash in a put, or behind it
pub Crashed-put : (place : ℕ) (part bytes left : List ℕ) (rest : List DiskStep) →
    Crashed (λ b. b ≡ bytes) bytes (put place part ++ rest) left
    → TornRange place (length part) bytes left ⊎ Crashed (λ b. b ≡ overwritten bytes place part) (overwritten bytes place part) rest left
Crashed-put place part bytes left rest (inl inside) = inl (subst (λ b. TornRange place (length part) b left) inside.1 inside.2)
Crashed-put place part bytes left rest (inr (inl synced)) =
    inl (subst (λ (l : List ℕ). TornRange place (length part) bytes l) (sym synced.2)
    (subst (λ b. TornRange place (length part) b synced.0) synced.1.1 synced.1.2))
Crashed-put place part bytes left rest (inr (inr behind)) = inr behind

-- what a formatted sector that is no defect shows, by its gate
abbrev gated : ℕ → List ℕ → SectorView
gated gate bytes = if gate == open_gate then Holds bytes else Lost

view_by-gated : (d f g : ℕ) (bytes : List ℕ) → (d == defect_byte) ≡ false → (f == formed_byte) ≡ true → view_by d f g bytes ≡ gated g bytes
view_by-gated d f g bytes p q = rw (p, q) refl

pub byte-written : (bytes : List ℕ) (place value : ℕ) → place ≤ length bytes →
    slice_index (overwritten bytes place (value ∷ [])) place ≡ value
byte-written bytes place value within =
    let here : place ≡ place + 0 = omega arith in
    ap (λ k. slice_index (overwritten bytes place (value ∷ [])) k) here ∙ get_or-overwritten bytes (value ∷ []) place 0 0 within
    (omega arith)

-- .. with its gate and its bytes
record Formed (l : Layout) (sector : ℕ) (bytes : List ℕ) (gate : ℕ) (holds : List ℕ) : Type 0 where
  whole : end_of l ≤ length bytes
  defect : (slice_index bytes (place l DefectByte sector) == defect_byte) ≡ false
  formed : (slice_index bytes (place l FormedByte sector) == formed_byte) ≡ true
  gate_is : slice_index bytes (place l GateByte sector) ≡ gate
  holds_is : sector_bytes l bytes sector ≡ holds

view-gated : {l : Layout} {sector : ℕ} {bytes : List ℕ} {gate : ℕ} {holds : List ℕ} → Formed l sector bytes gate holds →
    view_in l bytes sector ≡ gated gate holds
view-gated {l = l} {sector = sector} {bytes = bytes} f =
    view_in-is l bytes sector ∙ view_by-gated _ _ _ _ f.defect f.formed ∙ ap (λ g. gated g (sector_bytes l bytes sector)) f.gate_is
    ∙ ap (gated _) f.holds_is

module _ (l : Layout) (sector : ℕ) (on : sector < sectors l.segments_per_track) (bytes : List ℕ) (gate : ℕ) (holds : List ℕ)
    (f : Formed l sector bytes gate holds) where
  gate-onlyin : (value : ℕ) → OnlyIn (place l GateByte sector) 1 bytes (overwritten bytes (place l GateByte sector) (value ∷ []))
  gate-onlyin value = OnlyIn-written (place l GateByte sector) bytes (value ∷ [])
      (let w = f.whole in let b = (laid_out l).before GateByte sector on in omega arith)

  gate-put : (value : ℕ) → Formed l sector (overwritten bytes (place l GateByte sector) (value ∷ [])) value holds
  gate-put value =
      let only = gate-onlyin value in
      let w = f.whole in
      let size = only.size in
      let b = (laid_out l).before GateByte sector on in
      record {
        whole = omega arith;
        defect = ap (λ b. b == defect_byte) (byte-kept l GateByte sector bytes _ only w on DefectByte sector on (inl (λ e. cc))) ∙ f.defect;
        formed = ap (λ b. b == formed_byte) (byte-kept l GateByte sector bytes _ only w on FormedByte sector on (inl (λ e. cc))) ∙ f.formed;
        gate_is = byte-written bytes (place l GateByte sector) value (omega arith);
        holds_is = data-kept l GateByte sector bytes _ only w on sector on (inl (λ e. cc)) ∙ f.holds_is;
      }

  gate-torn : (left : List ℕ) → TornRange (place l GateByte sector) 1 bytes left → (view_in l left sector ≡ Lost)
      ⊎ (view_in l left sector ≡ Holds holds)
  gate-torn left torn =
      let shown : view_in l left sector ≡ gated (slice_index left (place l GateByte sector)) holds =
      gate-view l sector bytes left (OnlyIn-torn _ _ _ _ torn) f.whole on ∙ view_by-gated _ _ _ _ f.defect f.formed
      ∙ ap (gated _) f.holds_is in
      by_gate (slice_index left (place l GateByte sector) == open_gate) refl shown
    where
      by_gate : (opens : Bool) → (slice_index left (place l GateByte sector) == open_gate) ≡ opens →
          view_in l left sector ≡ gated (slice_index left (place l GateByte sector)) holds → (view_in l left sector ≡ Lost)
          ⊎ (view_in l left sector ≡ Holds holds)
      by_gate true is shown = inr (shown ∙ ap (λ b. if b then Holds holds else Lost) is)
      by_gate false is shown = inl (shown ∙ ap (λ b. if b then Holds holds else Lost) is)

-- from its view
formed_by : (bd bf bg : Bool) (s : List ℕ) (v : SectorView) →
    (if bd then Defect else (if bf then (if bg then Holds s else Lost) else Blank)) ≡ v → v ≢ Blank → v ≢ Defect
    → (bd ≡ false) × (bf ≡ true) × ((if bg then Holds s else Lost) ≡ v)
formed_by true bf bg s v is blank defect = absurd (defect (sym is))
formed_by false false bg s v is blank defect = absurd (blank (sym is))
formed_by false true bg s v is blank defect = (refl, refl, is)

opened : (bg : Bool) (s old : List ℕ) → (if bg then Holds s else Lost) ≡ Holds old → Holds s ≡ Holds old
opened true s old is = is
opened false s old is = cc

blank_by : (bd bf bg : Bool) (s : List ℕ) → (if bd then Defect else (if bf then (if bg then Holds s else Lost) else Blank)) ≡ Blank →
    (bd ≡ false) × (bf ≡ false)
blank_by true bf bg s is = cc
blank_by false true true s is = cc
blank_by false true false s is = cc
blank_by false false bg s is = (refl, refl)

view_by-blank : (d f g : ℕ) (bytes : List ℕ) → (f == formed_byte) ≡ false →
    view_by d f g bytes ≡ (if d == defect_byte then Defect else Blank)
view_by-blank d f g bytes p = rw p refl

module _ (head : Head) (bytes : List ℕ) (segment sector : ℕ) (is : head_of bytes ≡ Some head) (whole : end_of head.layout ≤ length bytes)
    (on : place_of segment sector < sectors head.layout.segments_per_track) where
  formed-here : (v : SectorView) → view_in head.layout bytes (place_of segment sector) ≡ v → v ≢ Blank → v ≢ Defect
      → Formed head.layout (place_of segment sector) bytes (slice_index bytes (place head.layout GateByte (place_of segment sector)))
      (sector_bytes head.layout bytes (place_of segment sector))
      × (gated (slice_index bytes (place head.layout GateByte (place_of segment sector)))
      (sector_bytes head.layout bytes (place_of segment sector)) ≡ v)
  formed-here v view blank defect =
      let f = formed_by _ _ _ _ v (sym (view_in-is head.layout bytes (place_of segment sector)) ∙ view) blank defect in
      (record { whole = whole; defect = f.0; formed = f.1; gate_is = refl; holds_is = refl }, f.2)

  -- what the cartridge is with another view there
  pub becomes : (left : List ℕ) (view : SectorView) → Beside head.layout (place_of segment sector) bytes left →
      view_in head.layout left (place_of segment sector) ≡ view →
      cartridge_of left ≡ Some (with_view (read_as head bytes) segment sector view)
  becomes left view beside now = cartridge-beside head segment sector bytes left view is on beside now

  -- the view there
  pub viewed : (v : SectorView) → view_in head.layout bytes (place_of segment sector) ≡ v → view_at (read_as head bytes) segment sector ≡ v
  viewed v view = view_at-read head bytes segment sector on ∙ view

  pub stays : (v : SectorView) → view_in head.layout bytes (place_of segment sector) ≡ v →
      Some (with_view (read_as head bytes) segment sector v) ≡ cartridge_of bytes
  stays v view = ap Some (same-view head bytes segment sector v on view) ∙ sym (cartridge_of-read bytes head is)

  -- a step that puts in the view f of the view there
  pub put-view : (s : Step) (f : SectorView → SectorView) (v : SectorView) →
      ((c : Cartridge) → effect s (Some c) ≡ Some (with_view c segment sector (f (view_at c segment sector))))
      → view_in head.layout bytes (place_of segment sector) ≡ v → Some (with_view (read_as head bytes) segment sector (f v)) ≡ effect s
      (cartridge_of bytes)
  put-view s f v puts view =
      ap (λ w. Some (with_view (read_as head bytes) segment sector (f w))) (sym (viewed v view)) ∙ sym (puts (read_as head bytes))
      ∙ ap (effect s) (sym (cartridge_of-read bytes head is))

  -- making a sector unreadable: it stays or is lost
  pub wear-means : (v : SectorView) → view_in head.layout bytes (place_of segment sector) ≡ v →
      Means (wear_steps head.layout (place_of segment sector) v) (Wear segment sector ∷ []) bytes
  wear-means Blank view = record {
    done = sym (stays Blank view) ∙ put-view (Wear segment sector) worn_view Blank (λ c. refl) view;
    torn = λ left crashed. absurd crashed;
  }
  wear-means Defect view = record {
    done = sym (stays Defect view) ∙ put-view (Wear segment sector) worn_view Defect (λ c. refl) view;
    torn = λ left crashed. absurd crashed;
  }
  wear-means Lost view = record {
    done = sym (stays Lost view) ∙ put-view (Wear segment sector) worn_view Lost (λ c. refl) view;
    torn = λ left crashed. absurd crashed;
  }
  wear-means (Holds old) view =
      let f = formed-here (Holds old) view (λ e. cc) (λ e. cc) in
      let shut = gate-put head.layout (place_of segment sector) on bytes _ _ f.0 closed_gate in
      let there : Beside head.layout (place_of segment sector) bytes
      (overwritten bytes (place head.layout GateByte (place_of segment sector)) (closed_gate ∷ [])) =
      Beside-part head.layout GateByte (place_of segment sector) bytes _ whole on
      (gate-onlyin head.layout (place_of segment sector) on bytes _ _ f.0 closed_gate) in
      record {
        done = becomes _ Lost there (view-gated shut) ∙ put-view (Wear segment sector) worn_view (Holds old) (λ c. refl) view;
        torn = λ left crashed.
            elim (Crashed-put (place head.layout GateByte (place_of segment sector)) (closed_gate ∷ []) bytes left [] crashed) [
              | inl torn ↦
                  let near = Beside-part head.layout GateByte (place_of segment sector) bytes left whole on (OnlyIn-torn _ _ _ _ torn) in
                  elim (gate-torn head.layout (place_of segment sector) on bytes _ _ f.0 left torn) [
                    | inl lost ↦ inr (inr
                        (becomes left Lost near lost ∙ put-view (Wear segment sector) worn_view (Holds old) (λ c. refl) view))
                    | inr same ↦ inl (becomes left (Holds old) near (same ∙ opened _ _ old f.1) ∙ stays (Holds old) view)
                  ]
              | inr none ↦ absurd none
            ];
      }

  -- making a defect of a blank sector: it stays or is one
  pub spoil-means : (v : SectorView) → view_in head.layout bytes (place_of segment sector) ≡ v →
      Means (spoil_steps head.layout (place_of segment sector) v) (Spoil segment sector ∷ []) bytes
  spoil-means Defect view = record {
    done = sym (stays Defect view) ∙ put-view (Spoil segment sector) spoiled_view Defect (λ c. refl) view;
    torn = λ left crashed. absurd crashed;
  }
  spoil-means Lost view = record {
    done = sym (stays Lost view) ∙ put-view (Spoil segment sector) spoiled_view Lost (λ c. refl) view;
    torn = λ left crashed. absurd crashed;
  }
  spoil-means (Holds old) view = record {
    done = sym (stays (Holds old) view) ∙ put-view (Spoil segment sector) spoiled_view (Holds old)
        (λ c. refl) view;
    torn = λ left crashed. absurd crashed;
  }
  spoil-means Blank view =
      let q : ℕ = place_of segment sector in
      let l : Layout = head.layout in
      let b = blank_by (slice_index bytes (place l DefectByte q) == defect_byte) (slice_index bytes (place l FormedByte q) == formed_byte)
      (slice_index bytes (place l GateByte q) == open_gate) (sector_bytes l bytes q) (sym (view_in-is l bytes q) ∙ view) in
      let shown : (left : List ℕ) → OnlyIn (place l DefectByte q) 1 bytes left →
      view_in l left q ≡ (if slice_index left (place l DefectByte q) == defect_byte then Defect else Blank) =
      λ left only. defect-view l q bytes left only whole on ∙ view_by-blank (slice_index left (place l DefectByte q))
      (slice_index bytes (place l FormedByte q)) (slice_index bytes (place l GateByte q)) (sector_bytes l bytes q) b.1 in
      let only = OnlyIn-written (place l DefectByte q) bytes (defect_byte ∷ []) (let b = (laid_out l).before DefectByte q on in omega arith)
      in
      let put_there = byte-written bytes (place l DefectByte q) defect_byte (let b = (laid_out l).before DefectByte q on in omega arith) in
      let by_byte : (left : List ℕ) (bad : Bool) → Beside l q bytes left → view_in l left q ≡ (if bad then Defect else Blank) →
      Torn (Spoil segment sector ∷ []) (cartridge_of bytes) (cartridge_of left) =
      λ left bad near now. spoiled left bad near now view in
      record {
        done = becomes _ Defect (Beside-part l DefectByte q bytes _ whole on only)
            (shown _ only ∙ ap (λ d. if d == defect_byte then Defect else Blank) put_there)
            ∙ put-view (Spoil segment sector) spoiled_view Blank (λ c. refl) view;
        torn = λ left crashed.
            elim (Crashed-put (place l DefectByte q) (defect_byte ∷ []) bytes left [] crashed) [
              | inl torn ↦ by_byte left (slice_index left (place l DefectByte q) == defect_byte)
                  (Beside-part l DefectByte q bytes left whole on (OnlyIn-torn _ _ _ _ torn)) (shown left (OnlyIn-torn _ _ _ _ torn))
              | inr none ↦ absurd none
            ];
      }
    where
      spoiled : (left : List ℕ) (bad : Bool) → Beside head.layout (place_of segment sector) bytes left →
          view_in head.layout left (place_of segment sector) ≡ (if bad then Defect else Blank)
          → view_in head.layout bytes (place_of segment sector) ≡ Blank → Torn (Spoil segment sector ∷ []) (cartridge_of bytes)
          (cartridge_of left)
      spoiled left true near now view = inr
          (inr (becomes left Defect near now ∙ put-view (Spoil segment sector) spoiled_view Blank (λ c. refl) view))
      spoiled left false near now view = inl (becomes left Blank near now ∙ stays Blank view)
