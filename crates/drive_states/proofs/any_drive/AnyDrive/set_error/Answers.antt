use Rattle.drive_states.proofs.any_drive.AnyDrive.set_error.Goals as goal

pub returns-in-LoadPoint : goal.returns-in-LoadPoint
returns-in-LoadPoint g c = rw c.in-LoadPoint.is c.set_error.ensures

pub returns-in-Primary : goal.returns-in-Primary
returns-in-Primary g c = rw c.in-Primary.is c.set_error-in-Primary.ensures

pub returns-in-Format : goal.returns-in-Format
returns-in-Format g c = rw c.in-Format.is c.set_error-in-Format.ensures

pub returns-in-Verify : goal.returns-in-Verify
returns-in-Verify g c = rw c.in-Verify.is c.set_error-in-Verify.ensures

pub returns-in-SeekingLoadPoint : goal.returns-in-SeekingLoadPoint
returns-in-SeekingLoadPoint g c = rw c.in-SeekingLoadPoint.is c.set_error-in-SeekingLoadPoint.ensures

pub returns-in-SeekingPrimary : goal.returns-in-SeekingPrimary
returns-in-SeekingPrimary g c = rw c.in-SeekingPrimary.is c.set_error-in-SeekingPrimary.ensures

pub returns-in-SeekingFormat : goal.returns-in-SeekingFormat
returns-in-SeekingFormat g c = rw c.in-SeekingFormat.is c.set_error-in-SeekingFormat.ensures

pub returns-in-SeekingVerify : goal.returns-in-SeekingVerify
returns-in-SeekingVerify g c = rw c.in-SeekingVerify.is c.set_error-in-SeekingVerify.ensures
