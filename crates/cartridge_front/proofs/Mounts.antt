-- What is known of the mounting of a cartridge whose header and volume table were read.
use Rattle.std.proofs.Common.{◌≡◌, ℕ, ◌-◌, ◌*◌, List, Err, sym, ap, subst, inr}
use Rattle.qic_base.specs.Cartridge.{Cartridge}
use Rattle.cartridge_laws.specs.HeaderTerms.{fault_as}
use Rattle.cartridge_spec.specs.Table.{Entry, IsFirstFault}
use Rattle.cartridge_spec.specs.Mounting.{IsSoundlyFormatted}
use Rattle.cartridge_spec.specs.HeaderCopies.{last_segment}
use Rattle.host_driver.specs.declared.host.Host.{Host}
use Rattle.host_driver.specs.Fits.{segments_of}
use Rattle.header_segments.specs.declared.header.Header.{Header}
use Rattle.header_segments.specs.Header.{header_of}
use Rattle.qic_base.specs.declared.store_fault.StoreFault.{StoreFault}
use Rattle.qic_base.specs.declared.store_fault.StoreFault.TheVariants as fault
use Rattle.cartridge_front.specs.Finding.{HasFormat, FindsVolumes}
use Rattle.cartridge_front.specs.Learning.{MountRefuses}
use Rattle.cartridge_front.proofs.Copies.{IsLearnt}

pub sound_format : (c : Cartridge) (words : List ℕ) (header : Header) → HasFormat c words header → IsSoundlyFormatted c
sound_format c words header has = record { area = has.area; header = header_of header; words = words; formatted = has.formatted }

-- the last segment, by what the host has learnt
pub last_learnt : (host : Host) (c : Cartridge) → IsLearnt host c → 28 * segments_of host - 1 ≡ last_segment c
last_learnt host c learnt = ap (λ (n : ℕ). 28 * n - 1) (sym learnt.length_told)

-- a refusal of the volume table, on a cartridge with a sound header
pub refuses_table : (host : Host) (c : Cartridge) (words : List ℕ) (header : Header) (sectors : List (List ℕ)) (entries : List Entry)
    (e : StoreFault) →
    IsLearnt host c → HasFormat c words header → FindsVolumes c (28 * segments_of host - 1) sectors entries (Err e) → MountRefuses c e
refuses_table host c words header sectors entries (fault.Foreign field value) learnt has found = inr (record {
  formatted = sound_format c words header has;
  area = found.area;
  table = found.table;
  first = subst (λ (last : ℕ). IsFirstFault found.area last (fault_as field value)) (last_learnt host c learnt) found.bad.first;
})
refuses_table host c words header sectors entries (fault.Lost segment lost) learnt has found =
    (found.0, (sound_format c words header has, found.1))
refuses_table host c words header sectors entries fault.TableMismatch learnt has found = (sound_format c words header has, found)
refuses_table host c words header sectors entries fault.NotFormatted learnt has found = absurd found
refuses_table host c words header sectors entries (fault.Full need have) learnt has found = found
refuses_table host c words header sectors entries (fault.NoVolume number count) learnt has found = found
refuses_table host c words header sectors entries (fault.Mismatch segment) learnt has found = found
refuses_table host c words header sectors entries fault.Protected learnt has found = found
refuses_table host c words header sectors entries (fault.Short promised read) learnt has found = found
refuses_table host c words header sectors entries fault.Source learnt has found = found
refuses_table host c words header sectors entries fault.Sink learnt has found = found
refuses_table host c words header sectors entries fault.Tape learnt has found = found
