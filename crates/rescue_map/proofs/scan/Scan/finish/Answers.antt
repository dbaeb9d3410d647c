use Rattle.rescue_map.specs.Lines.{content_of}
use Rattle.rescue_map.proofs.Cutting.{cut_words}
use Rattle.rescue_map.proofs.scan.Scan.finish.Goals as goal

pub returns : goal.returns
returns c = λ line scanned.
    let cut = c.settle.ensures line scanned in
    rw (cut_words c.settle.new.self (content_of record { bytes = line; ended = c.args.ended }) cut)
    (c.close.ensures.words cut.over cut.begun cut.are cut.is_begun)
