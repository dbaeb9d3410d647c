-- How many segments a check looks at: no more than there can be.
use Rattle.std.proofs.Common.{◌≡◌, ℕ, ◌+◌, ◌-◌, ◌*◌, ◌<◌, ◌≤◌, All, List, [], ◌∷◌, length, sym, ap, ◌∙◌, subst, arith}
use Rattle.std.proofs.lemmas.List.Elements.{All-head, All-tail, All-weaker}
use Rattle.cartridge_front.specs.Finding.{ShowsVolumes}
use Rattle.cartridge_laws.specs.Shape.{Carries}
use Rattle.cartridge_laws.specs.Table.{IsSoundList}
use Rattle.cartridge_spec.specs.Table.{Entry}
use Rattle.command_laws.proofs.ScrubApart.{looked_carry, looked_rise}
use Rattle.command_laws.specs.ScrubSayings.{Rise}
use Rattle.command_spec.specs.Scrub.{Looked, looked_at}
use Rattle.drive_states.specs.Unit.{UnitView}
use Rattle.host_driver.specs.Calls.{Keeps}
use Rattle.host_driver.specs.Fits.{Fits, segments_of}
use Rattle.host_driver.specs.declared.host.Host.{Host}
use Rattle.qic_base.specs.Tape.{Meaning}
use Rattle.qic_base.specs.declared.TheConstants.{LONGEST}
use Rattle.volume_store.proofs.Storing.{length_learnt, one_length, sound_volumes}

-- of segments that rise there are no more than numbers that they can have
rising_few : (from last : ℕ) (ls : List Looked) → Rise ls → All (λ l. from ≤ l.segment) ls → All (λ l. l.segment ≤ last) ls →
    length ls ≤ last + 1 - from
rising_few from last [] rise behind within = omega arith
rising_few from last (l ∷ ls) rise behind within =
    let least : from ≤ l.segment = All-head (λ (m : Looked). from ≤ m.segment) l ls behind in
    let most : l.segment ≤ last = All-head (λ (m : Looked). m.segment ≤ last) l ls within in
    let rest : length ls ≤ last + 1 - (l.segment + 1) = rising_few (l.segment + 1) last ls rise.1
    (All-weaker (λ (m : Looked). l.segment < m.segment) (λ (m : Looked). l.segment + 1 ≤ m.segment)
    (λ m (past : l.segment < m.segment). omega arith) ls rise.0)
    (All-tail (λ (m : Looked). m.segment ≤ last) l ls within) in
    omega arith

pub looked_few : {T : Type 0} (m : Meaning T) (host : Host) (u : UnitView T) (words : List ℕ) (entries : List Entry) → Fits m host u →
    length words ≡ 28 * segments_of host → IsSoundList (length words - 1) entries → length (looked_at words entries) ≤ 28 * LONGEST
looked_few m host u words entries fits size order =
    let long = length_learnt m host u fits in
    let least = long.shortest in
    let most = long.longest in
    let last : ℕ = length words - 1 in
    let within : All (λ l. l.segment ≤ last) (looked_at words entries) =
    All-weaker (λ (l : Looked). Carries l.mask × (l.segment ≤ last)) (λ (l : Looked). l.segment ≤ last) (λ l both. both.1)
    (looked_at words entries) (looked_carry words entries last order (omega arith)) in
    let count : length (looked_at words entries) ≤ last + 1 - 0 =
    rising_few 0 last (looked_at words entries) (looked_rise words last entries order)
    (All-weaker (λ (l : Looked). l.segment ≤ last) (λ (l : Looked). 0 ≤ l.segment) (λ l h. omega arith) (looked_at words entries) within)
    within in
    omega arith

-- the list that the table shows is sound up to the map's last segment
pub list_sound : {T : Type 0} (m : Meaning T) (words : List ℕ) {known host : Host} {u v : UnitView T} {sectors : List (List ℕ)}
    {entries : List Entry} → Fits m known u → Keeps m host u v → length words ≡ 28 * segments_of known →
    ShowsVolumes sectors (28 * segments_of host - 1) entries → IsSoundList (length words - 1) entries
list_sound m words {known} {host} {u} {v} {sectors} {entries} fits keeps long shows =
    let same : length words ≡ 28 * segments_of host =
    long ∙ ap (λ (n : ℕ). 28 * n) (one_length m known host u v fits keeps.ready.fits keeps.same.cartridge) in
    subst (λ (n : ℕ). IsSoundList (n - 1) entries) (sym same) (sound_volumes sectors (28 * segments_of host - 1) entries shows)
