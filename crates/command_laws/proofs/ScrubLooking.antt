-- One segment more.
use Rattle.std.proofs.Common.{◌≡◌, ◌+◌, List, [], ◌∷◌, ◌++◌, cond, refl, sym, ap, ◌∙◌, subst, arith}
use Rattle.cartridge_laws.proofs.FormatWriting.{changed_by-append}
use Rattle.cartridge_spec.specs.Says.{Says}
use Rattle.cartridge_spec.specs.Settling.{changed_by}
use Rattle.command_laws.specs.ScrubLaws.{LooksOnce, OneMoreLook}
use Rattle.command_laws.specs.ScrubPlain.{looking_acts}
use Rattle.command_spec.specs.Scrub.{cells_at, reads, steps_in, unread_count}
use Rattle.command_laws.specs.ScrubTerms.{look_act}
use Rattle.qic_base.specs.Acts.{Act, steps_of}
use Rattle.qic_base.specs.Cartridge.{Cartridge}

pub one_more_look : OneMoreLook
one_more_look c [] [] l s say says = record { said = (says, tt); acts = refl; unread = omega arith }
one_more_look c [] (t ∷ ts) l s say says = absurd say
one_more_look c (m ∷ ms) [] l s say says = absurd say
one_more_look c (m ∷ ms) (t ∷ ts) l s say says =
    let d : Cartridge = changed_by (steps_in c m t) c in
    let same : changed_by (steps_of (looking_acts c (m ∷ ms) (t ∷ ts))) c ≡ changed_by (steps_of (looking_acts d ms ts)) d =
    changed_by-append (steps_in c m t) (steps_of (looking_acts d ms ts)) c in
    let rest : LooksOnce d ms ts l s = one_more_look d ms ts l s say.1 (subst (λ (e : Cartridge). Says (cells_at e l) s) same says) in
    let unread : unread_count (ms ++ l ∷ []) (ts ++ s ∷ []) ≡ unread_count ms ts + cond (reads l s) 0 1 = rest.unread in
    record {
      said = (say.0, rest.said);
      acts = ap (λ (acts : List Act). look_act c m t ∷ acts) rest.acts
          ∙ ap (λ (e : Cartridge). look_act c m t ∷ (looking_acts d ms ts ++ look_act e l s ∷ [])) (sym same);
      unread = omega arith;
    }
