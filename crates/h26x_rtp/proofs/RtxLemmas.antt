-- Retransmission packets and their originals.
use Rattle.std.proofs.Common.{◌≡◌, ℕ, ◌<◌, ◌+◌, ◌*◌, List, [], drop, get_or, refl, sym, ap, ◌∙◌}
use Rattle.h26x_rtp.specs.Datagram.{HeaderParts, DatagramParts, HeaderFits}
use Rattle.h26x_rtp.specs.Rtx.{rtx_bytes, in_stream, retransmission_of, IsOriginal}
use Rattle.h26x_rtp.proofs.WordLemmas.{word_again}

pub bears_original : (it : DatagramParts) (payload_type sequence ssrc : ℕ) → HeaderFits it.header →
    IsOriginal (retransmission_of it payload_type sequence ssrc) it.header.payload_type it.header.ssrc (record it { padding = [] })
bears_original it payload_type sequence ssrc fits = record { sequence = fits.sequence; payload = refl; header = refl; padding = refl }

-- two numbers and payloads that make the same bytes are the same
same_number : (m n : ℕ) (a b : List ℕ) → m < 65536 → n < 65536 → rtx_bytes m a ≡ rtx_bytes n b → m ≡ n
same_number m n a b hm hn same = sym (word_again m hm) ∙ ap (λ (x : List ℕ). get_or x 0 0 * 256 + get_or x 1 0) same ∙ word_again n hn

same_payload : (m n : ℕ) (a b : List ℕ) → rtx_bytes m a ≡ rtx_bytes n b → a ≡ b
same_payload m n a b same = ap (drop 2) same

pub one_original : (rtx a b : DatagramParts) (payload_type ssrc : ℕ) → IsOriginal rtx payload_type ssrc a → IsOriginal rtx payload_type ssrc b → a ≡ b
one_original rtx a b payload_type ssrc is other =
    let bytes = sym is.payload ∙ other.payload in
    let number = same_number a.header.sequence b.header.sequence a.payload b.payload is.sequence other.sequence bytes in
    let payload = same_payload a.header.sequence b.header.sequence a.payload b.payload bytes in
    let header : a.header ≡ b.header = is.header ∙ ap (λ n. in_stream rtx.header payload_type n ssrc) number ∙ sym other.header in
    let padding = is.padding ∙ sym other.padding in
    ap (λ (h : HeaderParts). record { header = h; payload = a.payload; padding = a.padding }) header
    ∙ ap (λ (p : List ℕ). record { header = b.header; payload = p; padding = a.padding }) payload
    ∙ ap (λ (p : List ℕ). record { header = b.header; payload = b.payload; padding = p }) padding

pub retransmitted_again : (rtx it : DatagramParts) (payload_type ssrc : ℕ) → IsOriginal rtx payload_type ssrc it → rtx.padding ≡ [] →
    retransmission_of it rtx.header.payload_type rtx.header.sequence rtx.header.ssrc ≡ rtx
retransmitted_again rtx it payload_type ssrc is none =
    let header : in_stream it.header rtx.header.payload_type rtx.header.sequence rtx.header.ssrc ≡ rtx.header =
    ap (λ (h : HeaderParts). in_stream h rtx.header.payload_type rtx.header.sequence rtx.header.ssrc) is.header in
    ap (λ (h : HeaderParts). record { header = h; payload = rtx_bytes it.header.sequence it.payload; padding = [] }) header
    ∙ ap (λ (p : List ℕ). record { header = rtx.header; payload = p; padding = [] }) (sym is.payload)
    ∙ ap (λ (p : List ℕ). record { header = rtx.header; payload = rtx.payload; padding = p }) (sym none)
