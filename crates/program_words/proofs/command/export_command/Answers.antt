use Rattle.std.proofs.lemmas.Result.{IfOk-weaker}
use Rattle.program_words.proofs.command.export_command.Goals as goal

pub returns : goal.returns
returns c =
    IfOk-weaker c.arg-2.result _ _ (λ m h. record {
      start = c.new.result;
      option = c.map_option-map.result;
      between = c.in_ok-with_map.with_map;
      image = c.image_argument.result;
      empty = record {
        app = c.new.ensures.app;
        args = c.new.ensures.empty.0;
        groups = c.new.ensures.empty.1;
        local = c.new.ensures.local;
        negates = c.new.ensures.negates;
      };
      is_option = c.map_option-map.ensures;
      is_image = c.image_argument.ensures;
      adds_option = c.in_ok-with_map.ensures;
      adds_image = h;
    }) c.arg-2.ensures
