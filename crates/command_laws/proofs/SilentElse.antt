-- Behind `scrub deep` each sector is as it was, or was put right.
use Rattle.std.proofs.Common.{◌≡◌, ◌⊎◌, inl, inr, ℕ, List, ap, sym, ◌∙◌, refl, subst, Contains, Some}
use Rattle.cartridge_laws.specs.Segment.{IsUnreadable}
use Rattle.cartridge_spec.specs.Says.{Data}
use Rattle.cartridge_spec.specs.Settling.{changed_by}
use Rattle.cartridge_spec.specs.Table.{Entry}
use Rattle.cartridge_laws.proofs.Sayings.{says_is_function}
use Rattle.command_laws.proofs.ScrubApart.{one_looked}
use Rattle.command_laws.proofs.ScrubForms.{AsSeen, as_seen, mended_as_seen, scrubbed_as_seen, wrong_is_mended}
use Rattle.command_laws.proofs.ScrubOneWrong.{finds_one}
use Rattle.command_laws.proofs.ScrubSeen.{FoundOf, IsLostNow, found_of}
use Rattle.command_laws.specs.ScrubFound.{without_all}
use Rattle.command_laws.specs.ScrubMended.{IsMended}
use Rattle.command_laws.specs.ScrubTerms.{Finds}
use Rattle.command_laws.specs.SilentLaws.{NothingElseChanges}
use Rattle.command_laws.specs.SilentSegments.{IsPutRight}
use Rattle.command_spec.specs.Scrub.{Finding, Looked, cells_at, looked_at}
use Rattle.command_spec.specs.declared.depth.Depth.TheVariants.{Deep}
use Rattle.qic_base.specs.Acts.{Act, steps_of}
use Rattle.qic_base.specs.Cartridge.{Cartridge, view_at}
use Rattle.qic_base.specs.Step.{written_view}
use Rattle.qic_base.specs.declared.tape.SectorView.TheVariants.{Holds}

module _ (c : Cartridge) (words : List ℕ) (entries : List Entry) (acts : List Act) (fs : List Finding)
    (run : AsSeen Deep c words entries acts fs) (s i : ℕ) where
  -- one that could not be read, or was found to be wrong
  was_so : (at : Looked) (f : Finding) → Contains (looked_at words entries) at → at.segment ≡ s → Finds Deep c at f →
      IsUnreadable (view_at (without_all c (looked_at words entries) fs) s i) →
      (view_at (without_all c (looked_at words entries) fs) s i ≡ view_at c s i)
      ⊎ IsLostNow Deep c (without_all c (looked_at words entries) fs) (looked_at words entries) s i →
      IsUnreadable (view_at c s i) ⊎ (f.wrong ≡ Some i)
  was_so at f among here finds gone (inl same) = inl (subst IsUnreadable same gone)
  was_so at f among here finds gone (inr lost) =
      let looked : List Looked = looked_at words entries in
      let one : lost.found.at ≡ at = one_looked looked lost.found.at at run.rise lost.found.among among (lost.found.here ∙ sym here) in
      let wrong : Finding = record { saying = Data lost.found.sectors; wrong = Some i } in
      let there : Finds Deep c at wrong =
      subst (λ (l : Looked). Finds Deep c l wrong) one (lost.found.searched, lost.found.sectors, refl, lost.found.wrong) in
      inr (ap (λ (g : Finding). g.wrong) (finds_one Deep c at f wrong finds there))

  put_right : (bytes : List ℕ) → IsMended (without_all c (looked_at words entries) fs) (looked_at words entries) s i bytes →
      view_at (changed_by (steps_of acts) c) s i ≡ Holds bytes →
      (view_at (without_all c (looked_at words entries) fs) s i ≡ view_at c s i)
      ⊎ IsLostNow Deep c (without_all c (looked_at words entries) fs) (looked_at words entries) s i →
      IsPutRight (looked_at words entries) c (changed_by (steps_of acts) c) s i
  put_right bytes mended view was =
      let looked : List Looked = looked_at words entries in
      let of : FoundOf Deep c (without_all c looked fs) mended.at =
      found_of Deep c (without_all c looked fs) looked fs mended.at run.found run.seen.seen mended.among in
      record {
        at = mended.at;
        among = mended.among;
        here = mended.here;
        finding = of.finding;
        finds = of.finds;
        sectors = mended.sectors;
        says = says_is_function (cells_at (without_all c looked fs) mended.at) of.finding.saying (Data mended.sectors) of.says mended.says;
        place = mended.place;
        within = mended.within;
        index = mended.index;
        was = was_so mended.at of.finding mended.among mended.here of.finds mended.unreadable was;
        is = view ∙ ap (λ (b : List ℕ). Holds b) (sym mended.block);
      }

pub nothing_else_changes : NothingElseChanges
nothing_else_changes c words entries last acts s i order scrubs small =
    let looked : List Looked = looked_at words entries in
    let fs : List Finding = scrubs.findings in
    let e : Cartridge = without_all c looked fs in
    let run = as_seen Deep c words entries last acts order scrubs in
    elim ((mended_as_seen Deep c words entries acts fs run).each s i small) [
      | inl same ↦ elim (run.seen.each s i small) [
        | inl is ↦ inl (same ∙ is)
        | inr lost ↦
            let mended = wrong_is_mended Deep c e looked s i lost in
            inr (put_right c words entries acts fs run s i mended.0 mended.1
            ((scrubbed_as_seen Deep c words entries acts fs run).mended s i mended.0 small mended.1 ∙ ap (written_view mended.0) lost.lost)
            (inr lost))
      ]
      | inr has ↦ inr (put_right c words entries acts fs run s i has.0 has.1 has.3 (run.seen.each s i small))
    ]
