mod Scanning
