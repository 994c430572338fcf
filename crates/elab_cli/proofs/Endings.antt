-- The endings of `check NAME`.
use Rattle.std.proofs.Common.{◌≡◌, ◌≤◌, inl, inr, length, ℕ, List, ◌+◌, take, length-take, true, None, Some, Ok, Err, sym, ap, subst, refl, arith}
use Rattle.std.specs.declared.option.Option.{Option}
use Rattle.std.specs.Prelude.{IfOk, IsSomeAnd, Result}
use Rattle.std.proofs.lemmas.List.{take_all}
use Rattle.std.proofs.lemmas.Grind.{common_steps}
use Rattle.std.specs.FinMap.{get}
use Rattle.std.specs.Io.KnownBytes.{Appends}
use Rattle.el_outside.specs.Stored.{FileMap, Gives}
use Rattle.el_outside.specs.declared.files.FileRead.TheVariants as read
use Rattle.source_tree.specs.declared.decl.File.{File}
use Rattle.session_text.specs.declared.error.LoadError.{LoadError}
use Rattle.session_text.specs.declared.report.Report.{Report}
use Rattle.file_load.specs.declared.loaded_file.Loaded.{Loaded}
use Rattle.file_load.specs.declared.loaded_file.Loaded.TheVariants as answer
use Rattle.file_load.specs.Load.{HasVerdict, IsInError, IsLoaded, Made, Reads, Verdict, limit}
use Rattle.file_load.specs.LoadedFile as loaded
use Rattle.file_load.specs.LoadedFile.{made_of, report_of}
use Rattle.file_load.specs.declared.loaded_file.LoadedFile.{LoadedFile}
use Rattle.session_text.specs.Lines.{report_bytes}
use Rattle.std.specs.declared.vec.Vec.{Vec}
use Rattle.term_pool.specs.declared.limits.Limits.{Limits}
use Rattle.elab_cli.specs.Said.{IsOut, Sends, SendsAll, Tells, TellsVerdict}
use Rattle.elab_cli.specs.Transcript.{IsJudged, CheckAnswers, bytes_of, status_of, status_of_report}
use Rattle.elab_cli.specs.declared.status.Status.{Status}
use Rattle.elab_cli.specs.declared.status.Status.TheVariants as status

-- a text whose front of one byte more than the limit is within the limit is its front
whole : (all : List ℕ) (n : ℕ) → length (take (n + 1) all) ≤ n → take (n + 1) all ≡ all
whole all n short = take_all (n + 1) all (grind (arith, common_steps))

read_front : (all : List ℕ) (o : Result File LoadError) → Reads (take (limit + 1) all) o → Reads all o
read_front all o (Reads.too_long h) = Reads.too_long (omega (arith, h, length-take (limit + 1) all))
read_front all o (Reads.not_utf8 s v) = subst (λ t. Reads t o) (whole all limit s) (Reads.not_utf8 s v)
read_front all o (Reads.no_token s u e) = subst (λ t. Reads t o) (whole all limit s) (Reads.no_token s u e)
read_front all o (Reads.outside l e) = subst (λ t. Reads t o) (whole all limit l.short) (Reads.outside l e)
read_front all o (Reads.no_file p) = subst (λ t. Reads t o) (whole all limit p.lexes.short) (Reads.no_file p)
read_front all o (Reads.unbuilt p e) = subst (λ t. Reads t o) (whole all limit p.lexes.short) (Reads.unbuilt p e)
read_front all o (Reads.built p e) = subst (λ t. Reads t o) (whole all limit p.lexes.short) (Reads.built p e)

module _ (limits : Limits) where
  -- what is said of the front is said of the text
  verdict_front : (all : List ℕ) (v : Verdict) → HasVerdict limits.fuel limits.depth (take (limit + 1) all) v → HasVerdict limits.fuel limits.depth all v
  verdict_front all (Err e) (IsInError.unread r) = IsInError.unread (read_front all (Err e) r)
  verdict_front all (Err e) (IsInError.undeclared {file = file} r d) = IsInError.undeclared (read_front all (Ok file) r) d
  verdict_front all (Ok m) h = record { file = h.file; reads = read_front all (Ok h.file) h.reads; made = h.made; derivable = h.derivable }

  -- what is said of the bytes that a read gave is said of the text under the name
  judged_read : (files : Option FileMap) (name bytes : List ℕ) (v : Verdict) → Gives files name limit (read.Bytes bytes) → HasVerdict limits.fuel limits.depth bytes v → IsJudged limits files name v
  judged_read None name bytes v g h = record { text = bytes; holds = tt; judged = h }
  judged_read (Some m) name bytes v g h = found (get m name) refl g
    where
      found : (r : Option (List ℕ)) → get m name ≡ r → IsSomeAnd r (λ all. bytes ≡ take (limit + 1) all) → IsJudged limits (Some m) name v
      found None e g = absurd g
      found (Some all) e g = record { text = all; holds = e; judged = verdict_front all v (subst (λ t. HasVerdict limits.fuel limits.depth t v) g h) }

  -- every report is complete
  done : (text : List ℕ) (m : Made) → IsLoaded limits.fuel limits.depth text m → status_of (Ok m) ≡ status.Done
  done text m h = let complete : m.report.complete ≡ true = ap (λ (r : Report). r.complete) h.made.report in rw complete refl

  wrote_all : (files : Option FileMap) (name : List ℕ) (old new : Option (List ℕ)) (v : Verdict) → IsJudged limits files name v → Appends old new (bytes_of v) → CheckAnswers limits files name old new (status_of v)
  wrote_all files name old new (Err e) j a = record { verdict = Err e; judged = j; meant = refl; appends = a }
  wrote_all files name old new (Ok m) j a = subst (CheckAnswers limits files name old new) (sym (done j.text m j.judged)) (record { verdict = Ok m; judged = j; meant = done j.text m j.judged; appends = a })

  out_answers : (files : Option FileMap) (name : List ℕ) (old new : Option (List ℕ)) (result : Status) → IsOut old new result → CheckAnswers limits files name old new result
  out_answers files name old new result o = subst (CheckAnswers limits files name old new) (sym o.is) (inl o.nothing)

  sent_answers : (files : Option FileMap) (name : List ℕ) (old new : Option (List ℕ)) (v : Verdict) (result : Status) → IsJudged limits files name v → SendsAll (bytes_of v) (status_of v) old new result → CheckAnswers limits files name old new result
  sent_answers files name old new v result j (inl t) = subst (CheckAnswers limits files name old new) (sym t.0) (wrote_all files name old new v j t.1)
  sent_answers files name old new v result j (inr (inl t)) = subst (CheckAnswers limits files name old new) (sym t.0) (record { verdict = v; judged = j; part = t.1 })
  sent_answers files name old new v result j (inr (inr t)) = subst (CheckAnswers limits files name old new) (sym t.0) (inr (record { verdict = v; judged = j; part = t.1 }))

  verdict_answers : (files : Option FileMap) (name : List ℕ) (old new : Option (List ℕ)) (v : Verdict) (result : Status) → IsJudged limits files name v → TellsVerdict v old new result → CheckAnswers limits files name old new result
  verdict_answers files name old new v result j (inl t) = sent_answers files name old new v result j t
  verdict_answers files name old new v result j (inr o) = out_answers files name old new result o

  -- what is told of the bytes that a read gave is the answer of the call
  pub told_answers : (files : Option FileMap) (name bytes : List ℕ) (old new : Option (List ℕ)) (a : Loaded) (result : Status) → Gives files name limit (read.Bytes bytes) → loaded.Answers limits.fuel limits.depth bytes a → Tells a old new result → CheckAnswers limits files name old new result
  told_answers files name bytes old new (answer.Error e) result g h t = verdict_answers files name old new (Err e) result (judged_read files name bytes (Err e) g h) t
  told_answers files name bytes old new (answer.Done f) result g h t = verdict_answers files name old new (Ok (made_of f)) result (judged_read files name bytes (Ok (made_of f)) g h.verdict) t
  told_answers files name bytes old new answer.NoMemory result g h t = out_answers files name old new result t

-- the lines of a report, and how the program ends after them
pub told_done : {A E : Type 0} (f : LoadedFile) (lines : Result (Vec ℕ A) E) (meant : Status) (old new : Option (List ℕ)) (result : Status) → IfOk lines (λ v. v.items ≡ report_bytes (report_of f)) → meant ≡ status_of_report (report_of f)
    → Sends lines meant old new result → TellsVerdict (Ok (made_of f)) old new result
told_done f (Ok v) meant old new result bytes is s = inl (subst (λ (ys : List ℕ). SendsAll ys (status_of_report (report_of f)) old new result) bytes (subst (λ (m : Status). SendsAll v.items m old new result) is s))
told_done f (Err e) meant old new result bytes is s = inr s
