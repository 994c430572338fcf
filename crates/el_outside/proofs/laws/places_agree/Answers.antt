use Rattle.std.proofs.Common.{ap, sym}
use Rattle.std.specs.Str.{chars}
use Rattle.el_outside.specs.Place.{start, Place, pos}
use Rattle.el_outside.proofs.Stands.{Stands-start, Stands-nexts}
use Rattle.el_outside.proofs.laws.places_agree.Goals as goal

pub returns : goal.returns
returns c =
    let text = c.args.text.now in
    record {
      border = λ n. (Stands-nexts text c.utf8.text n (start (chars text)) (Stands-start text c.utf8.text)).border;
      rest = λ n. (Stands-nexts text c.utf8.text n (start (chars text)) (Stands-start text c.utf8.text)).rest;
      pos = λ n. ap (λ (p : Place). pos p) (sym (Stands-nexts text c.utf8.text n (start (chars text)) (Stands-start text c.utf8.text)).place);
    }
