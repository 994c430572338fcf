-- The stages of the load, put together.
use Rattle.std.proofs.Common.{◌≡◌, ◌≤◌, ◌+◌, ℕ, false, List, [], ◌∷◌, length, Ok, Err, refl, sym, ap, subst, ◌∙◌, arith}
use Rattle.std.specs.Prelude.{nat_lt}
use Rattle.std.proofs.lemmas.List.{length-map}
use Rattle.std.proofs.lemmas.Bool.Decides.{nat_tests}
use Rattle.el_outside.specs.Place.{Place}
use Rattle.core_rules.specs.Signature.{Signature, Postulate, Family, Open, Function, defs, fams}
use Rattle.core_rules.specs.Mapped.{decl_map}
use Rattle.term_pool.specs.Pool.{tree}
use Rattle.source_tree.specs.declared.decl.File.{File}
use Rattle.file_load.specs.declared.state.Core.{Core}
use Rattle.session_text.specs.declared.error.LoadError.{LoadError}
use Rattle.core_rules.specs.Term.{Term}
use Rattle.core_terms.specs.Signature.{signature_in}
use Rattle.file_load.specs.declared.loaded_file.LoadedFile.{LoadedFile}
use Rattle.file_load.specs.declared.loaded_file.Loaded.{Loaded}
use Rattle.file_load.specs.declared.loaded_file.Loaded.TheVariants as answer
use Rattle.file_load.specs.LoadedFile.{Answers, IsOf, pool_of, signature_of}
use Rattle.file_load.specs.Judged.{Agrees, IsNew, declared}
use Rattle.file_load.specs.Load.{Declares, DeclaresFile, IsInError, Reads, complete_report, reaches}
use Rattle.file_load.specs.Stages.{FileAnswers, IsError, IsFileDone}
use Rattle.file_load.proofs.Accepted.{signature_derivable}

-- the first character that does not begin before the byte, where that is the first
pub reached : (n : ℕ) (p : Place) (cs : List ℕ) → n ≤ p.at → reaches n p cs ≡ p
reached n p [] l = refl
reached n p (c ∷ cs) l = let no : nat_lt p.at n ≡ false = grind (arith, nat_tests) in rw no refl

module _ (fuel depth : ℕ) where
  -- what is said of a file is said of its text
  pub answers_of : (text : List ℕ) (file : File) (a : Loaded) → Reads text (Ok file) → FileAnswers fuel depth file a → Answers fuel depth text a
  answers_of text file (answer.Error e) r h = IsInError.undeclared r h
  answers_of text file (answer.Done f) r h = record {
    verdict = record { file = file; reads = r; made = h.made; derivable = signature_derivable fuel depth file h.made.known (signature_in (pool_of f) (signature_of f)) h.made.loads };
    stands = h.stands;
  }
  answers_of text file answer.NoMemory r h = tt

  -- an error of a text that is not read on
  pub is_error : (text : List ℕ) (a : Loaded) (e : LoadError) → Reads text (Err e) → IsError a e → Answers fuel depth text a
  is_error text (answer.Error f) e r h = subst (λ (x : LoadError). IsInError fuel depth text x) (sym h) (IsInError.unread r)
  is_error text (answer.Done f) e r h = absurd h
  is_error text answer.NoMemory e r h = tt

-- each declaration is a postulate or function, or a family
all_kinds : (g : Signature ℕ) → length (defs g) + length (fams g) ≡ length g
all_kinds [] = refl
all_kinds (Postulate x t ∷ g) = omega (arith, all_kinds g)
all_kinds (Family d ∷ g) = omega (arith, all_kinds g)
all_kinds (Open x t ∷ g) = omega (arith, all_kinds g)
all_kinds (Function x t qs T ∷ g) = omega (arith, all_kinds g)

pub is_made : (fuel depth : ℕ) (file : File) (old new : Core) (f : LoadedFile) → IsNew old → Declares fuel depth old.scope (declared old) file.decls (Ok (new.scope, declared new)) → Agrees new
    → IsOf f (length (defs new.signature) + length (fams new.signature)) new.scope.names new.pool new.signature → IsFileDone fuel depth file f
is_made fuel depth file old new f is h a of =
    let same : signature_in (pool_of f) (signature_of f) ≡ declared new = rw (of.pool, of.signature) refl in
    let count : length (defs new.signature) + length (fams new.signature) ≡ length (declared new) = all_kinds new.signature ∙ sym (length-map new.signature (decl_map (tree new.pool))) in
    record {
      made = record {
        known = new.scope;
        loads = subst (λ (g : Signature Term). DeclaresFile fuel depth file (Ok (new.scope, g))) (sym same) (rw is.scope at (rw is.signature at h));
        names = of.names;
        report = of.report ∙ ap complete_report (count ∙ ap length (sym same));
      };
      stands = rw (of.pool, of.signature) a.stands;
    }
