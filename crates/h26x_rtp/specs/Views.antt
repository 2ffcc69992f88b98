-- What packets of the code say.
use Rattle.std.specs.Option.{option_map}
use Rattle.h26x_rtp.specs.declared.header.RtpExtension.{RtpExtension}
use Rattle.h26x_rtp.specs.declared.header.RtpHeader.{RtpHeader}
use Rattle.h26x_rtp.specs.declared.datagram.RtpDatagram.{RtpDatagram}
use Rattle.h26x_rtp.specs.Datagram.{ExtensionParts, HeaderParts, DatagramParts}

abbrev pub extension_view : RtpExtension → ExtensionParts
extension_view it = record { profile = it.profile; bytes = it.bytes.now }

abbrev pub header_view : RtpHeader → HeaderParts
header_view it = record {
  marker = it.marker;
  payload_type = it.payload_type;
  sequence = it.sequence;
  timestamp = it.timestamp;
  ssrc = it.ssrc;
  csrcs = it.csrcs.now;
  extension = option_map extension_view it.extension;
}

abbrev pub datagram_view : RtpDatagram → DatagramParts
datagram_view it = record {
  header = header_view it.header;
  payload = it.payload.now;
  padding = it.padding.now;
}
